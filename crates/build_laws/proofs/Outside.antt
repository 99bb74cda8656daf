-- A build changes no path outside the store, whatever stood in the store before.
use Rattle.std.proofs.Common.{◌≡◌, ◌≢◌, ◌∙◌, sym, ap, refl, inl, inr, ◌⊎◌, ℕ, zero, suc, Bool, true, false, cond, List, [], ◌∷◌, ◌++◌, Option, Some, None, arith}
use Rattle.std.specs.Prelude.{Result, Ok, Err, is_some, Contains}
use Rattle.std.specs.FinMap.{get, insert}
use Rattle.cm_base.specs.Files.{Files, is_stored, told}
use Rattle.cm_base.specs.Keeping.{Keeps}
use Rattle.cm_base.specs.declared.diag.Diag.{Diag}
use Rattle.cm_base.specs.declared.record.BuiltUnit.{BuiltUnit}
use Rattle.cm_base.specs.declared.record.CompileInput.{CompileInput}
use Rattle.cm_base.specs.declared.record.Compiled.{Compiled}
use Rattle.cm_base.specs.declared.record.PlannedUnit.{PlannedUnit}
use Rattle.cm_base.proofs.FileLemmas.{get-insert_other}
use Rattle.cm_base.proofs.KeepingLemmas.{keeps_same}
use Rattle.cm_bytes.specs.Hashes.{hash_of}
use Rattle.bin_formats.specs.Format.{binfile, interface_file}
use Rattle.bin_store.specs.Paths.{bin_path, interface_path}
use Rattle.bin_store.specs.Stored.{stored_interface, with_interface, PutsBin}
use Rattle.bin_store.proofs.Elsewhere.{bin_stored, interface_stored}
use Rattle.bin_store.proofs.GoodAfter.{keeps_put_interface, keeps_put_bin}
use Rattle.build_laws.specs.CutBuild.{Cut, turn, turn_by, compiled_turn, then_cut, cut_after, cut_build}
use Rattle.build_laws.specs.Inputs.{input_after, interface_bytes}
use Rattle.build_laws.specs.Left.{LeftByCut, NextUnit, KeepsProject}
use Rattle.build_laws.specs.PlainBuild.{PlainUnit, plain_unit}
use Rattle.build_laws.specs.Stale.{loaded_for}
use Rattle.build_laws.specs.Storing.{bin_of_unit, put_unit, StoresUnit}

-- a path of the store is none outside it
apart : (path q : List ℕ) → is_stored path ≡ true → is_stored q ≡ false → q ≢ path
apart path q is out = λ same. let both : is_stored q ≡ true = ap is_stored same ∙ is in cc

insert_outside : (files : Files) (path bytes q : List ℕ) → is_stored path ≡ true → is_stored q ≡ false
    → get (insert files path bytes) q ≡ get files q
insert_outside files path bytes q is out = get-insert_other files path bytes q (apart path q is out)

interface_outside : (files : Files) (text q : List ℕ) → is_stored q ≡ false → get (with_interface files text) q ≡ get files q
unfolding with_interface
interface_outside files text q out = by_test (is_some (stored_interface files (hash_of text)))
  where
    by_test : (b : Bool)
        → get (cond b files (insert files (interface_path (hash_of text)) (interface_file text))) q ≡ get files q
    by_test true = refl
    by_test false = insert_outside files (interface_path (hash_of text)) (interface_file text) q (interface_stored (hash_of text)) out

put_outside : (files : Files) (p : PlannedUnit) (u : BuiltUnit) (q : List ℕ) → is_stored q ≡ false
    → get (put_unit files p u) q ≡ get files q
unfolding put_unit
put_outside files p u q out =
    insert_outside (with_interface files u.interface) (bin_path p.unit) (binfile (bin_of_unit p u)) q (bin_stored p.unit) out
    ∙ interface_outside files u.interface q out

module _ (compiled : CompileInput → Result Compiled Diag) where
  compiled_outside : (files : Files) (p : PlannedUnit) (r : Result PlainUnit Diag) (q : List ℕ) → is_stored q ≡ false
      → get (compiled_turn files p r).files q ≡ get files q
  compiled_outside files p (Err d) q out = refl
  compiled_outside files p (Ok u) q out = put_outside files p _ q out

  by_outside : (files : Files) (n : ℕ) (p : PlannedUnit) (input : CompileInput) (l : Option BuiltUnit) (q : List ℕ)
      → is_stored q ≡ false → get (turn_by compiled files n p input l).files q ≡ get files q
  by_outside files n p input None q out = compiled_outside files p (plain_unit n input (compiled input)) q out
  by_outside files n p input (Some u) q out = refl

  turn_outside : (files : Files) (bs : List BuiltUnit) (p : PlannedUnit) (q : List ℕ) → is_stored q ≡ false
      → get (turn compiled files bs p).files q ≡ get files q
  turn_outside files bs p q out =
      by_outside files (interface_bytes bs) p (input_after bs p) (loaded_for files (input_after bs p)) q out

  then_outside : (g : Result BuiltUnit Diag) (asked : List (List ℕ)) (after : Files) (rest : BuiltUnit → Cut) (q : List ℕ)
      → ((u : BuiltUnit) → get (rest u).files q ≡ get after q) → get (then_cut g asked after rest).files q ≡ get after q
  then_outside (Err d) asked after rest q more = refl
  then_outside (Ok u) asked after rest q more = more u

  pub cut_outside : (ps : List PlannedUnit) (files : Files) (bs : List BuiltUnit) (q : List ℕ) → is_stored q ≡ false
      → get (cut_after compiled files bs ps).files q ≡ get files q
  cut_outside [] files bs q out = refl
  cut_outside (p ∷ ps) files bs q out =
      let t = turn compiled files bs p in
      then_outside t.gives t.asked t.files (λ u. cut_after compiled t.files (bs ++ u ∷ []) ps) q
      (λ u. cut_outside ps t.files (bs ++ u ∷ []) q out) ∙ turn_outside files bs p q out

-- however far the storing of a unit came, each path but its own two is as it was
pub stored_outside : {here : Files} {new : Option Files} (p : PlannedUnit) (u : BuiltUnit) → StoresUnit (Some here) new p u
    → (after : Files) × (new ≡ Some after)
    × ((q : List ℕ) → q ≢ interface_path (hash_of u.interface) → q ≢ bin_path p.unit → get after q ≡ get here q)
stored_outside {here} {new} p u stores =
    let one = (keeps_put_interface stores.interface).rest here refl in
    let two = (bin_kept stores.between stores.bin).rest one.0 one.1 in (
      two.0,
      two.1,
      λ q interface bin. two.2 q (λ h. bin (only q (bin_path p.unit) h))
          ∙ one.2 q (λ h. interface (only q (interface_path (hash_of u.interface)) h)),
    )
  where
    only : (q path : List ℕ) → Contains (path ∷ []) q → q ≡ path
    only q path (zero, lt, same) = sym same
    only q path (suc n, lt, same) = absurd (omega (arith, lt))

    bin_kept : (between : Option Files)
        → (new ≡ between) ⊎ ((between ≡ told (λ files. with_interface files u.interface) (Some here))
        × PutsBin between new (bin_of_unit p u)) → Keeps between new (bin_path p.unit ∷ [])
    bin_kept between (inl same) = keeps_same between new (bin_path p.unit ∷ []) same
    bin_kept between (inr put) = keeps_put_bin put.1

pub project_kept : (compiled : CompileInput → Result Compiled Diag) (files : Files) (planned : List PlannedUnit)
    (new : Option Files) → new ≡ Some (cut_build compiled files planned).files → KeepsProject files new
project_kept compiled files planned new is = record {
  after = (cut_build compiled files planned).files;
  tells = is;
  kept = λ q out. cut_outside compiled planned files [] q out;
}

pub project_left : (compiled : CompileInput → Result Compiled Diag) (files : Files) (planned : List PlannedUnit)
    (new : Option Files) → LeftByCut compiled files planned new → KeepsProject files new
project_left compiled files planned new left =
    elim left.next [
      | inl same ↦ record { after = left.here; tells = same; kept = here }
      | inr next ↦ begun next
    ]
  where
    here : (q : List ℕ) → is_stored q ≡ false → get left.here q ≡ get files q
    here q out = ap (λ (c : Cut). get c.files q) (sym left.so_far.is) ∙ cut_outside compiled left.front files [] q out

    begun : NextUnit compiled left.done left.here left.rest new → KeepsProject files new
    begun next =
        let one = stored_outside next.at next.unit next.stores in
        record {
          after = one.0;
          tells = one.1;
          kept = λ q out.
              one.2 q (apart (interface_path (hash_of next.unit.interface)) q (interface_stored (hash_of next.unit.interface)) out)
              (apart (bin_path next.at.unit) q (bin_stored next.at.unit) out)
              ∙ here q out;
        }
