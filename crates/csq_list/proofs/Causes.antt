-- What an insert met that no cause refuses.
use Rattle.std.proofs.Common.{◌≡◌, ◌<◌, Bool, false, cond, not, ◌&&◌, List, [], ◌∷◌, length, Some, None, refl, sym, ap, ◌∙◌, arith}
use borrow.Author.Tests.{leb-false, eqb-false}
use Rattle.csq_list.proofs.Imports.{by_value, find, AllByRecursion, lt-leb, IrpId, FileId, same_id-refl, Entry, Place, Listing, IsSound, inserted, renewed}
use Rattle.csq_list.specs.declared.refusals.InsertStatus.{InsertStatus}
use Rattle.csq_list.specs.Causes.{causes, last_causes, of_each, is_cause, first_cause}
use Rattle.csq_list.specs.declared.refusals.InsertStatus.TheVariants.{UnknownIrp, UnknownFile, NotHome, FileFull, Full}
use Rattle.csq_list.proofs.Keeping.{sound-inserted, unused-unlisted}

-- where nothing is found, no element passes the test
none_found : {X : Type 0} (test : X → Bool) (xs : List X) → find test xs ≡ None → AllByRecursion (λ x. test x ≡ false) xs
none_found test [] h = tt
none_found {X} test (x ∷ xs) h = by_value (λ b. (find test xs ≡ None → AllByRecursion (λ (y : X). test y ≡ false) xs) → (test x ≡ false) × AllByRecursion (λ (y : X). test y ≡ false) xs) (test x)
    (λ e rest. let t = ap (λ b. cond b (Some x) (find test xs)) e in absurd (cc))
    (λ e rest. (e, rest (sym (ap (λ b. cond b (Some x) (find test xs)) e) ∙ h))) (none_found test xs)

-- of an unused IRP, where both names are known, only the last causes may hold
pub cause-known : (s : Listing) (i : IrpId) (f : FileId) → i.0 < s.irps → f.0 < s.files → s.used i ≡ false → first_cause s i f ≡ find (is_cause s i f) last_causes
cause-known s i f irp file unused = rw (lt-leb s.irps i.0 irp, lt-leb s.files f.0 file, unused) refl

-- a renewed IRP is unused
pub renewed-unused : (s : Listing) (i : IrpId) → (renewed i s).used i ≡ false
renewed-unused s i = ap (λ b. not b && s.used i) (same_id-refl i)

-- so it is with what is put back
pub cause-put_back : (s : Listing) (i : IrpId) (f : FileId) → i.0 < s.irps → f.0 < s.files → first_cause (renewed i s) i f ≡ find (is_cause s i f) last_causes
cause-put_back s i f irp file = cause-known (renewed i s) i f irp file (renewed-unused s i)

-- what was accepted met no cause
pub no_cause : (s : Listing) (i : IrpId) (f : FileId) → first_cause s i f ≡ None → (cause : InsertStatus) → is_cause s i f cause ≡ false
no_cause s i f accepted = of_each (λ cause. is_cause s i f cause ≡ false) (none_found (is_cause s i f) causes accepted)

-- and keeps a list sound
pub sound-accepted : (s : Listing) → IsSound s → (place : Place) (e : Entry) → first_cause s e.irp e.file ≡ None → IsSound (inserted place e s)
sound-accepted s sound place e accepted =
    let met = no_cause s e.irp e.file accepted in
    let room : length s.entries < s.limit = omega (arith, sound.within_limit, eqb-false (length s.entries) s.limit (met Full)) in
    sound-inserted s sound place e (leb-false s.irps e.irp.0 (met UnknownIrp)) (leb-false s.files e.file.0 (met UnknownFile)) (unused-unlisted s sound e.irp (met NotHome)) room (met FileFull)
