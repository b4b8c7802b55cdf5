use Rattle.std.proofs.Common.{◌-◌, sym, subst}
use Rattle.csq_queue.proofs.Imports.{Limits, AllBack, GivenBack, IsClosed}
use Rattle.csq_queue.proofs.Leftovers.{left_so, given_run}
use Rattle.csq_queue.proofs.Presence.{lives_at}
use Rattle.csq_queue.proofs.open.queue.OpenQueue.close.Goals as goal

pub returns : goal.returns
returns g c =
    let s = g.L.PendingList.listing c.into_rest.result.list in
    let f = c.into_rest.result.finals in
    let q = f.queue in
    let taken = c.args.self.limits.passes - c.args.rack.left in
    let e = c.into_rest.ensures in
    record {
      rest = subst (λ (l : Limits). IsClosed l taken c.args.self.queue s f) c.give_rest.ensures.place.1 (record {
        given = subst (λ (l : Limits). GivenBack taken l.passes c.args.self.queue q) (sym c.give_rest.ensures.place.1) (given_run taken c.args.self.limits.passes c.args.self.queue c.give_rest.new.self.queue q e.queue e.follows c.give_rest.ensures.given);
        made = e.made;
        all = subst AllBack (sym e.queue) c.give_rest.ensures.all;
        first_is = e.first;
        irps = e.irps;
        last = e.last;
        legal = e.legal;
        list_is = e.list;
        left = λ n k. left_so c.give_rest.new.self.limits s f e.list e.irps (lives_at c.give_rest.new.self.limits q e.first e.legal) n k (e.left n k);
        records = e.records;
      });
    }
