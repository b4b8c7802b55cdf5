-- A legal history is one of the headline's queue of one thread.
use Rattle.std.proofs.Common.{◌≡◌, ◌≤◌, ⊎_elim, true≢false, ℕ, suc, ◌<◌, nat_le, nat_lt, ◌==◌, Bool, true, false, cond, not, ◌&&◌, List, [], ◌∷◌, map, filter, length, slice_index_or, Option, Some, None, refl, sym, ap, ◌∙◌}
use Rattle.csq_words.proofs.Imports.{cases_lt, le-leb, lt-ltb}
use Rattle.irp_core.proofs.Names.{same_id-refl}
use Rattle.irp_core.specs.declared.ids.{FileId.{FileId}, IrpId.{IrpId}, IrpLife.{IrpLife}}
use Rattle.csq_list.specs.declared.refusals.InsertStatus.{InsertStatus, TheVariants.{UnknownIrp, UnknownFile, NotHome, FileClosed, FileFull, Full}}
use Rattle.csq_list.specs.Searches.{same_file, of_file}
use Rattle.csq_words.specs.declared.views.{Event.{Event, TheVariants.{FlagSeen, Mark, Insert, RemoveNext, Remove, Out, CloseFile, Reuse, PutBack}}, HistoryEntry.{HistoryEntry}}
use Rattle.csq_words.specs.Queue.{Limits, QueueState, Queued, plain, present_in, has_irp, has_file, refusal, back_refusal, reply_to_insert}
use Rattle.csq_words.specs.History.{MayCome, IsLegal, end_of}
use Rattle.csq_theorem.specs.Headline.{why_refused, MayReply, IsSequential}

-- plain entries are as many
length-plain : (es : List Queued) → length (map plain es) ≡ length es
length-plain [] = refl
length-plain (e ∷ es) = ap suc (length-plain es)

-- so are those of one file object
file_len-plain : (f : FileId) (es : List Queued) → length (of_file f (map plain es)) ≡ length (filter (λ (e : Queued). same_file e.file f) es)
file_len-plain f [] = refl
file_len-plain f (e ∷ es) = go (same_file e.file f) (file_len-plain f es)
  where
    go : (b : Bool) → length (of_file f (map plain es)) ≡ length (filter (λ (x : Queued). same_file x.file f) es)
        → length (cond b (plain e ∷ of_file f (map plain es)) (of_file f (map plain es))) ≡ length (cond b (e ∷ filter (λ (x : Queued). same_file x.file f) es) (filter (λ (x : Queued). same_file x.file f) es))
    go true rest = ap suc rest
    go false rest = rest

-- the first of the causes, by what is true of each
abbrev by_causes : (a b c d e g : Bool) → Option InsertStatus
by_causes a b c d e g = cond a (Some UnknownIrp) (cond b (Some UnknownFile) (cond c (Some NotHome) (cond d (Some FileClosed) (cond e (Some FileFull) (cond g (Some Full) None)))))

-- whether a file object is full doesn't matter, if there is none
full_of_known : (a b c d e e' g : Bool) → (b ≡ false → e ≡ e') → by_causes a b c d e g ≡ by_causes a b c d e' g
full_of_known true b c d e e' g same = refl
full_of_known false true c d e e' g same = refl
full_of_known false false c d e e' g same = ap (λ x. by_causes false false c d x g) (same refl)

module _ (l : Limits) (u : QueueState) (f : FileId) where
  lt_of : nat_le l.files f.0 ≡ false → true ≡ nat_lt f.0 l.files
  lt_of less = sym (lt-ltb f.0 l.files (⊎_elim (λ (lt : f.0 < l.files). lt) (λ (le : l.files ≤ f.0). absurd (true≢false (sym (le-leb l.files f.0 le) ∙ less))) (cases_lt f.0 l.files)))

  -- of a known file object
  known : (limit : ℕ) → nat_le l.files f.0 ≡ false → (nat_lt f.0 l.files && (length (of_file f (map plain u.entries)) == limit)) ≡ (length (filter (λ (e : Queued). same_file e.file f) u.entries) == limit)
  known limit less = ap (λ b. b && (length (of_file f (map plain u.entries)) == limit)) (sym (lt_of less)) ∙ ap (λ n. n == limit) (file_len-plain f u.entries)

  why : (accepted : Bool) (n : IrpId) → by_causes (nat_le l.irps n.0) (nat_le l.files f.0) accepted (has_file u.closed f) (nat_lt f.0 l.files && (length (of_file f (map plain u.entries)) == slice_index_or l.file_limits f.0 0)) (length (map plain u.entries) == l.limit) ≡ why_refused l u accepted n f
  why accepted n =
      full_of_known (nat_le l.irps n.0) (nat_le l.files f.0) accepted (has_file u.closed f) _ _ _ (known (slice_index_or l.file_limits f.0 0))
      ∙ ap (λ m. by_causes (nat_le l.irps n.0) (nat_le l.files f.0) accepted (has_file u.closed f) (length (filter (λ (e : Queued). same_file e.file f) u.entries) == slice_index_or l.file_limits f.0 0) (m == l.limit)) (length-plain u.entries)

  refused_so : (n : IrpId) → refusal l u n f ≡ why_refused l u (has_irp u.used (present_in u n)) n f
  refused_so n = why (has_irp u.used (present_in u n)) n

  refused_back : (i : IrpLife) → back_refusal l u i f ≡ why_refused l u false i.irp f
  refused_back i = ap (λ b. by_causes (nat_le l.irps i.irp.0) (nat_le l.files f.0) (not b && has_irp u.used (present_in u i.irp)) (has_file u.closed f) (nat_lt f.0 l.files && (length (of_file f (map plain u.entries)) == slice_index_or l.file_limits f.0 0)) (length (map plain u.entries) == l.limit)) (same_id-refl i.irp) ∙ why false i.irp

may_reply : (l : Limits) (u : QueueState) (e : Event) → MayCome l u e → MayReply l u e
may_reply l u (Insert n f place reply) may = may ∙ ap (λ c. reply_to_insert c (has_irp u.flags (present_in u n))) (refused_so l u f n)
may_reply l u (PutBack i f place reply) may = (may.0, may.1, may.2 ∙ ap (λ c. reply_to_insert c (has_irp u.flags i)) (refused_back l u f i))
may_reply l u (CloseFile f) may = may
may_reply l u (FlagSeen i) may = may
may_reply l u (Mark i) may = may
may_reply l u (RemoveNext k r) may = may
may_reply l u (Remove i r) may = may
may_reply l u (Out i) may = may
may_reply l u (Reuse n life) may = may

pub is_sequential : (l : Limits) (history : List HistoryEntry) → IsLegal l history → IsSequential l history
is_sequential l [] h = tt
is_sequential l (e ∷ history) h = (may_reply l (end_of l.first history) e.event h.0, is_sequential l history h.1)
