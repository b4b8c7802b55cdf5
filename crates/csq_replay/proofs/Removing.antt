-- Removals: the matches that are looked at, and what the driver keeps in the end.
use Rattle.std.proofs.Common.{◌≡◌, ℕ, ◌<◌, Bool, true, false, cond, not, ◌&&◌, List, [], ◌∷◌, ◌++◌, map, Option, Some, None, refl, ap, sym, ◌∙◌, subst, arith, append_assoc}
use Rattle.csq_replay.proofs.Imports.{by_test, by_value, map-append, and-false, IrpId, Disarm, End, Made, Inside, Nothing, Removing, number, life_of, same_irp, IrpLife, bit, armed, found_by, inside, inside_after, follows, listed, dones, Size, MachineState, Agrees, size_of, same_pass-refl, listed_present, status_recorded, Entry, Peek, matches, is_listed, is_distinct, rest_after, Listing, IsSound, without_irp, Queued, QueueState, Limits, present_in, plain_listing, first_unmarked, has_entry, has_marked, has_unmarked, after_event, plain, ArePresent, irp_eq, same_irp-is, is_listed-plain, listing-removed, Next, Remove, Removed, NoIrp, Script, script_pass, script_size, present_of, IsPresentOf, next_step, after_steps, doing, removal_steps, named_removal_steps, Calls, removes_next, removes, removes_none, Keeping, Keeps, IsOfRun, AreMarked}
use Rattle.irp_core.specs.Lives as life
use Rattle.csq_list.specs.Searches as plainly
use Rattle.csq_list.proofs.Finding.{rest_after-ends, rest_after-among}
use Rattle.csq_words.specs.declared.views.Event.TheVariants as event
use Rattle.csq_replay.proofs.Going.{Goes, May, starts, run_for, went, may_remove, may_end}
use Rattle.csq_replay.proofs.Queueing.{marked_is, sound_lives, queue_hit, queue_miss, queue_end, found_then}

-- the first entry that matches, and what a removal does from it on
pub record Sought (k : Peek) (i : IrpId) (es : List Queued) : Type 0 where
  pub before : List Queued
  pub entry : Queued
  pub later : List Queued
  pub parts : es ≡ before ++ entry ∷ later
  pub is : entry.irp.irp ≡ i
  pub steps : removal_steps k es ≡ Disarm entry.irp ∷ cond entry.marked (removal_steps k later) []
  pub first : first_unmarked k es ≡ cond entry.marked (first_unmarked k later) (Some entry.irp)

-- an entry that doesn't match is passed
past : (k : Peek) (e : Queued) (es : List Queued) → matches k e.file ≡ false → first_unmarked k (e ∷ es) ≡ first_unmarked k es
past k e es m = rw m (rw (and-false (not e.marked)) refl)

pub sought : (k : Peek) (i : IrpId) (es : List Queued) → plainly.first_match k (map plain es) ≡ Some i → Sought k i es
sought k i [] h = absurd cc
sought k i (e ∷ es) h = by_value (λ b. (plainly.first_match k (map plain es) ≡ Some i → Sought k i es) → Sought k i (e ∷ es)) (matches k e.file)
    (λ m rest. let found : Some e.irp.irp ≡ Some i = rw m at h in
    record { before = []; entry = e; later = es; parts = refl; is = cc; steps = rw m refl; first = by_test e.marked (λ is. rw (m, is) refl) (λ is. rw (m, is) refl) })
    (λ m rest. let f : Sought k i es = rest (rw m at h) in
    record { before = e ∷ f.before; entry = f.entry; later = f.later; parts = ap (λ l. e ∷ l) f.parts; is = f.is; steps = rw m f.steps; first = past k e es m ∙ f.first }) (sought k i es)

-- where no entry matches, a removal ends
pub none_sought : (k : Peek) (es : List Queued) → plainly.first_match k (map plain es) ≡ None → (removal_steps k es ≡ End ∷ []) × (first_unmarked k es ≡ None)
none_sought k [] h = (refl, refl)
none_sought k (e ∷ es) h = go (matches k e.file) refl (none_sought k es)
  where
    go : (b : Bool) → matches k e.file ≡ b → (plainly.first_match k (map plain es) ≡ None → (removal_steps k es ≡ End ∷ []) × (first_unmarked k es ≡ None))
        → (removal_steps k (e ∷ es) ≡ End ∷ []) × (first_unmarked k (e ∷ es) ≡ None)
    go true m rest = let none : Some e.irp.irp ≡ None = rw m at h in absurd cc
    go false m rest = let f = rest (rw m at h) in (rw m f.0, past k e es m ∙ f.1)

-- the entries of a later part are marked too
marks_later : (E : List Made) (before later : List Queued) → AreMarked E (before ++ later) → AreMarked E later
marks_later E [] later h = h
marks_later E (e ∷ before) later h = marks_later E before later h.1

present_later : (lives : IrpId → ℕ) (before later : List Queued) → ArePresent lives (before ++ later) → ArePresent lives later
present_later lives [] later h = h
present_later lives (e ∷ before) later h = present_later lives before later h.1

-- what stands after an entry
rest_later : (after : Option IrpId) (es : List Entry) (before : List Queued) (e : Queued) (later : List Queued) → is_distinct es ≡ true
    → map plain (before ++ e ∷ later) ≡ rest_after after es → map plain later ≡ rest_after (Some e.irp.irp) es
rest_later after es before e later distinct rest =
    let (front, ends) = rest_after-ends after es in
    let whole : es ≡ (front ++ map plain before) ++ plain e ∷ map plain later =
    ends ∙ ap (λ l. front ++ l) (sym rest ∙ map-append plain before (e ∷ later)) ∙ sym (append_assoc front (map plain before) (plain e ∷ map plain later)) in
    sym (ap (λ l. rest_after (Some e.irp.irp) l) whole ∙ rest_after-among (front ++ map plain before) (plain e) (map plain later) (sym (ap is_distinct whole) ∙ distinct))

-- a removal may go on
abbrev pub seeks : Inside → Type 0
seeks x = follows x End ≡ true

after_miss : (x : Inside) (i : IrpLife) → seeks x → seeks (inside_after x (Disarm i) 0)
after_miss Nothing i h = refl
after_miss Removing i h = refl
after_miss x i h = absurd cc

after_hit : (x : Inside) (i : IrpLife) → inside_after x (Disarm i) 1 ≡ Nothing
after_hit Nothing i = refl
after_hit x i = refl

-- the run E of a removal that has looked at all entries but the rest
pub record Seeks (begin : ℕ) (k : Peek) (s : Script) (listing : Listing) (machine : MachineState) (after : Option IrpId) : Type 0 where
  pub run : List Made
  pub rest : List Queued
  pub before : List Queued
  pub at : Inside
  pub goes : Goes machine run at
  pub may : seeks at
  pub queue : IsOfRun begin run s.queue
  pub parts : s.queue.entries ≡ before ++ rest
  pub plainly : map plain rest ≡ rest_after after listing.entries
  pub steps : after_steps (removal_steps k rest) run ≡ after_steps (removal_steps k s.queue.entries) s.run
  pub first : first_unmarked k rest ≡ first_unmarked k s.queue.entries
  pub over : (j : IrpLife) → dones run j ≡ dones s.run j

bit_set : (b : Bool) (v : ℕ) → v ≡ bit b → v ≡ 1 → b ≡ true
bit_set true v is e = refl
bit_set false v is e = absurd (omega arith)

bit_clear : (b : Bool) (v : ℕ) → v ≡ bit b → (v ≡ 1 → ⊥) → b ≡ false
bit_clear true v is e = absurd (e is)
bit_clear false v is e = refl

module _ (l : Limits) (kept : Keeping) (s : Script) (k : Keeps l kept s) where
  -- a script goes on by steps that claim, complete and renew nothing
  pub keeps_run : (machine : MachineState) (listing : Listing) (E : List Made) (q : QueueState) → Agrees machine E → size_of machine ≡ size_of kept.machine
      → listing ≡ plain_listing l q → IsOfRun l.first E q → inside E script_pass ≡ Nothing
      → ((j : IrpLife) → dones E j ≡ dones s.run j) → ((n : IrpId) → q.lives n ≡ s.queue.lives n) → ((n : IrpId) → q.file_of n ≡ s.queue.file_of n)
      → Keeps l (record kept { machine = machine; listing = listing }) (record s { run = E; queue = q })
  keeps_run machine listing E q a same is queue outside over lives files = record {
    agrees = a;
    size = same ∙ k.size;
    few = k.few;
    listing = is;
    queue = queue;
    outside = outside;
    reported = λ i none. k.reported i (sym (over i) ∙ none);
    statuses = λ n in_range. k.statuses n in_range ∙ ap (λ (y : IrpLife). status_recorded y s.completed) (sym (still n));
    statuses_size = k.statuses_size;
    files = λ n in_range. k.files n in_range ∙ sym (files n);
    files_size = k.files_size;
  }
    where
      still : (n : IrpId) → present_in q n ≡ present_of s n
      still n = let at_life : ℕ → IrpLife = λ g. record { irp = n; life = record { 0 = g } } in ap at_life (lives n)

  -- each entry is of its IRP's present life
  pub present : ArePresent s.queue.lives s.queue.entries
  present = (sound_lives (script_size l) s.run (run_for l kept s k) s.queue k.queue).entries

  pub listed_now : (i : IrpLife) → listed s.run i ≡ true → present_of s i.irp ≡ i
  listed_now i there =
      let now = listed_present (script_size l) s.run (run_for l kept s k) i there in
      irp_eq (present_of s i.irp) i refl (k.queue.lives i.irp ∙ sym now)

  pub entry_now : (i : IrpLife) → has_entry s.queue.entries i ≡ true → present_of s i.irp ≡ i
  entry_now i there = listed_now i (sym (k.queue.entries i) ∙ there)

  -- the entries of the list
  pub entries_are : kept.listing.entries ≡ map plain s.queue.entries
  entries_are = ap (λ (x : Listing). x.entries) k.listing

  pub listed_is : (i : IrpLife) → life_of i ≡ s.queue.lives i.irp → is_listed kept.listing.entries i.irp ≡ has_entry s.queue.entries i
  listed_is i now = ap (λ es. is_listed es i.irp) entries_are ∙ is_listed-plain s.queue.lives i now s.queue.entries present

  pub listed_known : IsSound kept.listing → (n : IrpId) → is_listed kept.listing.entries n ≡ true → n.0 < (size_of kept.machine).irps
  listed_known sound n there =
      let known = sound.used_known n (sound.listed_used n there) in
      omega (arith, known, ap (λ (x : Listing). x.irps) k.listing, ap (λ (n : Size). n.irps) k.size)

  pub seeks_first : (peek : Peek) → Seeks l.first peek s kept.listing kept.machine None
  seeks_first peek = record {
    run = s.run;
    rest = s.queue.entries;
    before = [];
    at = Nothing;
    goes = starts l kept s k;
    may = refl;
    queue = k.queue;
    parts = refl;
    plainly = sym entries_are;
    steps = refl;
    first = refl;
    over = λ j. refl;
  }

  module _ (peek : Peek) (machine : MachineState) (after : Option IrpId) (h : Seeks l.first peek s kept.listing machine after) where
    pub may_disarm_next : IsSound kept.listing → size_of machine ≡ size_of kept.machine → (n : IrpId) → is_listed kept.listing.entries n ≡ true → May machine (Disarm (present_of s n))
    may_disarm_next sound same n there =
        may_remove machine h.run h.at h.goes (present_of s n) h.may (omega (arith, listed_known sound n there, ap (λ (n : Size). n.irps) same))
        (sym (h.queue.entries (present_of s n)) ∙ sym (listed_is (present_of s n) refl) ∙ there)

    -- the machine's present life is still the queue's
    pub seeks_name : size_of machine ≡ size_of kept.machine → (n : IrpId) → life.present (size_of machine).first h.run n ≡ present_of s n
    seeks_name same n =
        let at_life : ℕ → IrpLife = λ g. record { irp = n; life = record { 0 = g } } in
        ap at_life (ap (λ (x : Size). life.present_life x.first h.run n) (same ∙ k.size) ∙ sym (h.queue.lives n))

    module _ (n : IrpId) (found : Some n ≡ plainly.first_match peek (rest_after after kept.listing.entries)) where
      abbrev i : IrpLife
      i = present_of s n

      here : Sought peek n h.rest
      here = sought peek n h.rest (ap (plainly.first_match peek) h.plainly ∙ sym found)

      name_is : here.entry.irp ≡ i
      name_is =
          let P : List Queued → Type 0 = λ es. ArePresent s.queue.lives es in
          let rest = present_later s.queue.lives h.before h.rest (subst P h.parts present) in
          let now = (present_later s.queue.lives here.before (here.entry ∷ here.later) (subst P here.parts rest)).0 in
          irp_eq here.entry.irp i here.is (now ∙ ap s.queue.lives here.is)

      -- the mark of what was found
      mark_is : here.entry.marked ≡ not (armed h.run i)
      mark_is =
          let P : List Queued → Type 0 = λ es. AreMarked h.run es in
          let rest = marks_later h.run h.before h.rest (subst P h.parts h.queue.marks) in
          (marks_later h.run here.before (here.entry ∷ here.later) (subst P here.parts rest)).0 ∙ ap (λ j. not (armed h.run j)) name_is

      -- it was claimed: the removal goes on after it
      pub seeks_more : IsSound kept.listing → (new : MachineState) (v : ℕ) → Agrees new (next_step h.run (Disarm i)) → size_of new ≡ size_of machine → v ≡ found_by h.run (Disarm i) → (v ≡ 1 → ⊥)
          → Seeks l.first peek s kept.listing new (Some n)
      seeks_more sound new v a same value miss =
          let gone : armed h.run i ≡ false = bit_clear (armed h.run i) v value miss in
          let marked : here.entry.marked ≡ true = mark_is ∙ ap not gone in
          let F : ℕ → List Made = λ n. found_then h.run (Disarm i) n in
          let zero_found : found_by h.run (Disarm i) ≡ 0 = ap bit gone in
          let IsQueue : List Made → Type 0 = λ E. IsOfRun l.first E s.queue in
          let IsMay : ℕ → Type 0 = λ n. seeks (inside_after h.at (Disarm i) n) in
          record {
            run = next_step h.run (Disarm i);
            rest = here.later;
            before = h.before ++ (here.before ++ here.entry ∷ []);
            at = inside_after h.at (Disarm i) (found_by h.run (Disarm i));
            goes = went machine h.run h.at h.goes new (Disarm i) a same;
            may = subst IsMay (sym zero_found) (after_miss h.at i h.may);
            queue = subst IsQueue (ap F (sym zero_found)) (queue_miss h.run s.queue h.queue i gone);
            parts = h.parts ∙ ap (λ es. h.before ++ es) (here.parts ∙ sym (append_assoc here.before (here.entry ∷ []) here.later)) ∙ sym (append_assoc h.before (here.before ++ here.entry ∷ []) here.later);
            plainly = rest_later after kept.listing.entries here.before here.entry here.later sound.distinct (ap (map plain) (sym here.parts) ∙ h.plainly) ∙ ap (λ j. rest_after (Some j) kept.listing.entries) here.is;
            steps = ap (λ j. after_steps (removal_steps peek here.later) (next_step h.run (Disarm j))) (sym name_is)
                ∙ sym (ap (λ ks. after_steps ks h.run) (here.steps ∙ ap (λ b. Disarm here.entry.irp ∷ cond b (removal_steps peek here.later) []) marked)) ∙ h.steps;
            first = sym (here.first ∙ ap (λ b. cond b (first_unmarked peek here.later) (Some here.entry.irp)) marked) ∙ h.first;
            over = h.over;
          }

      -- it was not: the removal has it
      pub seeks_hit : size_of machine ≡ size_of kept.machine → (new : MachineState) (v : ℕ) → Agrees new (next_step h.run (Disarm i)) → size_of new ≡ size_of kept.machine → v ≡ found_by h.run (Disarm i) → v ≡ 1
          → (listing : Listing) → listing ≡ without_irp n kept.listing
          → (t : Script) × Calls l s (Next peek) (Removed n) t × Keeps l (record kept { machine = new; listing = listing }) t
      seeks_hit size_now new v a same value hit listing without_i =
          let set : armed h.run i ≡ true = bit_set (armed h.run i) v value hit in
          let unmarked : here.entry.marked ≡ false = mark_is ∙ ap not set in
          let one_found : found_by h.run (Disarm i) ≡ 1 = ap bit set in
          let steps : next_step h.run (Disarm i) ≡ after_steps (removal_steps peek s.queue.entries) s.run =
          ap (λ j. next_step h.run (Disarm j)) (sym name_is)
          ∙ sym (ap (λ ks. after_steps ks h.run) (here.steps ∙ ap (λ b. Disarm here.entry.irp ∷ cond b (removal_steps peek here.later) []) unmarked)) ∙ h.steps in
          let q : QueueState = after_event s.queue (event.RemoveNext peek (Some i)) in
          let F : ℕ → List Made = λ n. found_then h.run (Disarm i) n in
          let IsQueue : List Made → Type 0 = λ E. IsOfRun l.first E q in
          let KeepsAt : List Made → Type 0 = λ E. Keeps l (record kept { machine = new; listing = listing }) (record s { run = E; queue = q }) in
          let reply : Some i ≡ first_unmarked peek s.queue.entries =
          sym (sym h.first ∙ here.first ∙ ap (λ b. cond b (first_unmarked peek here.later) (Some here.entry.irp)) unmarked ∙ ap (λ j. Some j) name_is) in (
            doing (removal_steps peek s.queue.entries) (event.RemoveNext peek (Some i)) s,
            removes_next peek (Some i) reply,
            subst KeepsAt steps (keeps_run new listing (next_step h.run (Disarm i)) q a same (without_i ∙ ap (without_irp n) k.listing ∙ listing-removed l s.queue i refl present)
                (subst IsQueue (ap F (sym one_found)) (queue_hit h.run s.queue h.queue i))
                ((went machine h.run h.at h.goes new (Disarm i) a (same ∙ sym size_now)).at ∙ ap (inside_after h.at (Disarm i)) one_found ∙ after_hit h.at i)
                h.over (λ j. refl) (λ j. refl)),
          )

    -- none is left
    pub seeks_end : None ≡ plainly.first_match peek (rest_after after kept.listing.entries) → (new : MachineState) → Agrees new (next_step h.run End) → size_of new ≡ size_of kept.machine
        → (t : Script) × Calls l s (Next peek) NoIrp t × Keeps l (record kept { machine = new }) t
    seeks_end found new a same =
        let none = none_sought peek h.rest (ap (plainly.first_match peek) h.plainly ∙ sym found) in
        let steps : next_step h.run End ≡ after_steps (removal_steps peek s.queue.entries) s.run = sym (ap (λ ks. after_steps ks h.run) none.0) ∙ h.steps in
        let KeepsAt : List Made → Type 0 = λ E. Keeps l (record kept { machine = new }) (record s { run = E }) in (
          doing (removal_steps peek s.queue.entries) (event.RemoveNext peek None) s,
          removes_next peek None (sym (sym h.first ∙ none.1)),
          subst KeepsAt steps (keeps_run new kept.listing (next_step h.run End) s.queue a same k.listing (queue_end h.run s.queue h.queue) (rw same_pass-refl refl) h.over (λ j. refl) (λ j. refl)),
        )

  -- a removal of one IRP
  pub removed_keeps : (i : IrpLife) → number i < (size_of kept.machine).irps → IsPresentOf s i → is_listed kept.listing.entries i.irp ≡ true → (new : MachineState) (v : ℕ) → Agrees new (next_step s.run (Disarm i))
      → size_of new ≡ size_of kept.machine → v ≡ found_by s.run (Disarm i) → v ≡ 1 → (listing : Listing) → listing ≡ without_irp i.irp kept.listing
      → (t : Script) × Calls l s (Remove i) (Removed i.irp) t × Keeps l (record kept { machine = new; listing = listing }) t
  removed_keeps i known now there new v a same value hit listing without_i =
      let life : life_of i ≡ s.queue.lives i.irp = sym (ap life_of now) in
      let set : armed s.run i ≡ true = bit_set (armed s.run i) v value hit in
      let one_found : found_by s.run (Disarm i) ≡ 1 = ap bit set in
      let unmarked : has_unmarked s.queue.entries i ≡ true = (marked_is s.run s.queue.entries k.queue.marks i).0 ∙ rw (sym (listed_is i life) ∙ there, set) refl in
      let steps : next_step s.run (Disarm i) ≡ after_steps (named_removal_steps i s.queue.entries) s.run = rw unmarked refl in
      let q : QueueState = after_event s.queue (event.Remove i true) in
      let F : ℕ → List Made = λ n. found_then s.run (Disarm i) n in
      let IsQueue : List Made → Type 0 = λ E. IsOfRun l.first E q in
      let KeepsAt : List Made → Type 0 = λ E. Keeps l (record kept { machine = new; listing = listing }) (record s { run = E; queue = q }) in (
        doing (named_removal_steps i s.queue.entries) (event.Remove i true) s,
        removes i (omega (arith, known, ap (λ (n : Size). n.irps) k.size)) (sym unmarked),
        subst KeepsAt steps (keeps_run new listing (next_step s.run (Disarm i)) q a same (without_i ∙ ap (without_irp i.irp) k.listing ∙ listing-removed l s.queue i life present)
            (subst IsQueue (ap F (sym one_found)) (queue_hit s.run s.queue k.queue i))
            ((went kept.machine s.run Nothing (starts l kept s k) new (Disarm i) a same).at ∙ ap (inside_after Nothing (Disarm i)) one_found) (λ j. refl) (λ j. refl) (λ j. refl)),
      )

  none_removed : (i : IrpLife) → number i < (size_of kept.machine).irps → has_unmarked s.queue.entries i ≡ false → (E : List Made) → E ≡ after_steps (named_removal_steps i s.queue.entries) s.run
      → (new : MachineState) → Agrees new E → size_of new ≡ size_of kept.machine → IsOfRun l.first E s.queue → inside E script_pass ≡ Nothing
      → ((j : IrpLife) → dones E j ≡ dones s.run j)
      → (t : Script) × Calls l s (Remove i) NoIrp t × Keeps l (record kept { machine = new }) t
  none_removed i known marked E steps new a same queue outside over =
      let KeepsAt : List Made → Type 0 = λ F. Keeps l (record kept { machine = new }) (record s { run = F }) in (
        doing (named_removal_steps i s.queue.entries) (event.Remove i false) s,
        removes_none i (omega (arith, known, ap (λ (n : Size). n.irps) k.size)) (sym marked),
        subst KeepsAt steps (keeps_run new kept.listing E s.queue a same k.listing queue outside over (λ j. refl) (λ j. refl)),
      )

  -- of an IRP that is claimed
  pub marked_keeps : (i : IrpLife) → number i < (size_of kept.machine).irps → IsPresentOf s i → is_listed kept.listing.entries i.irp ≡ true → (new : MachineState) (v : ℕ)
      → Agrees new (next_step (next_step s.run (Disarm i)) End) → size_of new ≡ size_of kept.machine → v ≡ found_by s.run (Disarm i) → (v ≡ 1 → ⊥)
      → (t : Script) × Calls l s (Remove i) NoIrp t × Keeps l (record kept { machine = new }) t
  marked_keeps i known now there new v a same value miss =
      let gone : armed s.run i ≡ false = bit_clear (armed s.run i) v value miss in
      let zero_found : found_by s.run (Disarm i) ≡ 0 = ap bit gone in
      let listed_here : has_entry s.queue.entries i ≡ true = sym (listed_is i (sym (ap life_of now))) ∙ there in
      let marks = marked_is s.run s.queue.entries k.queue.marks i in
      let unmarked : has_unmarked s.queue.entries i ≡ false = marks.0 ∙ rw (listed_here, gone) refl in
      let marked : has_marked s.queue.entries i ≡ true = marks.1 ∙ rw (listed_here, gone) refl in
      let F : ℕ → List Made = λ n. found_then s.run (Disarm i) n in
      let IsQueue : List Made → Type 0 = λ E. IsOfRun l.first E s.queue in
      let queue : IsOfRun l.first (next_step s.run (Disarm i)) s.queue = subst IsQueue (ap F (sym zero_found)) (queue_miss s.run s.queue k.queue i gone) in
      none_removed i known unmarked (next_step (next_step s.run (Disarm i)) End) (rw (unmarked, marked) refl) new a same
      (queue_end (next_step s.run (Disarm i)) s.queue queue) (rw same_pass-refl refl) (λ j. refl)

  -- of one that isn't listed in this life
  pub unlisted_keeps : (i : IrpLife) → number i < (size_of kept.machine).irps → (same_irp (present_of s i.irp) i && is_listed kept.listing.entries i.irp) ≡ false → (new : MachineState)
      → Agrees new (next_step s.run End) → size_of new ≡ size_of kept.machine
      → (t : Script) × Calls l s (Remove i) NoIrp t × Keeps l (record kept { machine = new }) t
  unlisted_keeps i known absent new a same =
      let nowhere : has_entry s.queue.entries i ≡ false = by_value (λ b. b ≡ false) (has_entry s.queue.entries i)
      (λ e. let now = entry_now i e in
      let here : is_listed kept.listing.entries i.irp ≡ true = listed_is i (sym (ap life_of now)) ∙ e in
      let both : (same_irp (present_of s i.irp) i && is_listed kept.listing.entries i.irp) ≡ true = rw (same_irp-is (present_of s i.irp) i now, here) refl in
      absurd (cc (absent, both)))
      (λ _. refl) in
      let marks = marked_is s.run s.queue.entries k.queue.marks i in
      let unmarked : has_unmarked s.queue.entries i ≡ false = marks.0 ∙ rw nowhere refl in
      let marked : has_marked s.queue.entries i ≡ false = marks.1 ∙ rw nowhere refl in
      none_removed i known unmarked (next_step s.run End) (rw (unmarked, marked) refl) new a same (queue_end s.run s.queue k.queue) (rw same_pass-refl refl) (λ j. refl)

  pub marked_may_end : (i : IrpLife) (new : MachineState) (v : ℕ) → Agrees new (next_step s.run (Disarm i)) → size_of new ≡ size_of kept.machine → v ≡ found_by s.run (Disarm i) → (v ≡ 1 → ⊥) → May new End
  marked_may_end i new v a same value miss =
      let zero_found : found_by s.run (Disarm i) ≡ 0 = ap bit (bit_clear (armed s.run i) v value miss) in
      may_end new (next_step s.run (Disarm i)) _ (went kept.machine s.run Nothing (starts l kept s k) new (Disarm i) a same) (ap (λ n. follows (inside_after Nothing (Disarm i) n) End) zero_found)
