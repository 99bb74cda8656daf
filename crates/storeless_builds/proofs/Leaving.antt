-- What a plain build leaves of its units is the same over any two folders.
use Rattle.std.proofs.Common.{◌≡◌, ◌∙◌, sym, ap, subst, refl, inl, inr, ℕ, zero, suc, cond, List, [], ◌∷◌, ◌++◌, Some, arith}
use Rattle.std.specs.Prelude.{Result, Ok, Err, Contains}
use Rattle.std.specs.Ordering.{nat_cmp, eq_by_cmp}
use Rattle.std.specs.Cmp.Lexicographic.{slice_cmp, nat_list_cmp_total}
use Rattle.std.specs.FinMap.{get, insert, get-insert}
use Rattle.std.proofs.lemmas.List.Elements.{Contains-append_cases}
use Rattle.cm_base.specs.Files.{Files}
use Rattle.cm_base.specs.declared.diag.Diag.{Diag}
use Rattle.cm_base.specs.declared.record.BuiltUnit.{BuiltUnit}
use Rattle.cm_base.specs.declared.record.CompileInput.{CompileInput}
use Rattle.cm_base.specs.declared.record.Compiled.{Compiled}
use Rattle.cm_base.specs.declared.record.PlannedUnit.{PlannedUnit}
use Rattle.cm_base.proofs.FileLemmas.{get-insert_same}
use Rattle.bin_formats.specs.Format.{binfile, interface_file}
use Rattle.bin_store.specs.Paths.{bin_path, interface_path}
use Rattle.build_laws.specs.Inputs.{input_after, interface_bytes}
use Rattle.build_laws.specs.PlainBuild.{PlainUnit, Build, compiled_unit, compiled_units, unit_after, then_build, build_after}
use Rattle.build_laws.specs.Planned.{paths_of}
use Rattle.build_laws.specs.Storing.{bin_of_unit, with_unit, with_units, unit_paths}
use Rattle.build_laws.proofs.Leaving.{unit_answers}
use Rattle.storeless_builds.specs.Laws.{BuildsLeaveAlike}

-- ---- one file

insert_alike : (a b : Files) (path bytes q : List ℕ) → get a q ≡ get b q
    → get (insert a path bytes) q ≡ get (insert b path bytes) q
insert_alike a b path bytes q same =
    get-insert nat_list_cmp_total a path bytes q
    ∙ ap (cond (eq_by_cmp (slice_cmp nat_cmp) q path) (Some bytes)) same
    ∙ sym (get-insert nat_list_cmp_total b path bytes q)

put_alike : (a b : Files) (path bytes q : List ℕ) → path ≡ q → get (insert a path bytes) q ≡ get (insert b path bytes) q
put_alike a b path bytes q at =
    subst (λ r. get (insert a path bytes) r ≡ get (insert b path bytes) r) at
    (get-insert_same a path bytes ∙ sym (get-insert_same b path bytes))

-- ---- one unit

unit_kept : (a b : Files) (p : PlannedUnit) (u : BuiltUnit) (q : List ℕ) → get a q ≡ get b q
    → get (with_unit a p u) q ≡ get (with_unit b p u) q
unfolding with_unit
unit_kept a b p u q same =
    insert_alike (insert a (interface_path u.hash) (interface_file u.interface))
    (insert b (interface_path u.hash) (interface_file u.interface)) (bin_path p.unit) (binfile (bin_of_unit p u)) q
    (insert_alike a b (interface_path u.hash) (interface_file u.interface) q same)

unit_put : (a b : Files) (p : PlannedUnit) (u : BuiltUnit) (q : List ℕ) → u.unit ≡ p.unit → Contains (unit_paths u) q
    → get (with_unit a p u) q ≡ get (with_unit b p u) q
unfolding with_unit
unit_put a b p u q name (zero, within, at) =
    insert_alike (insert a (interface_path u.hash) (interface_file u.interface))
    (insert b (interface_path u.hash) (interface_file u.interface)) (bin_path p.unit) (binfile (bin_of_unit p u)) q
    (put_alike a b (interface_path u.hash) (interface_file u.interface) q at)
unit_put a b p u q name (suc zero, within, at) =
    put_alike (insert a (interface_path u.hash) (interface_file u.interface))
    (insert b (interface_path u.hash) (interface_file u.interface)) (bin_path p.unit) (binfile (bin_of_unit p u)) q
    (ap bin_path (sym name) ∙ at)
unit_put a b p u q name (suc (suc n), within, at) = absurd (omega (arith, within))

-- ---- all units

pub units_kept : (ps : List PlannedUnit) (us : List BuiltUnit) (a b : Files) (q : List ℕ) → get a q ≡ get b q
    → get (with_units a ps us) q ≡ get (with_units b ps us) q
units_kept [] us a b q same = same
units_kept (p ∷ ps) [] a b q same = same
units_kept (p ∷ ps) (u ∷ us) a b q same =
    units_kept ps us (with_unit a p u) (with_unit b p u) q (unit_kept a b p u q same)

none_within : (q : List ℕ) → Contains [] q → ⊥
none_within q (n, within, at) = omega (arith, within)

module _ (compiled : CompileInput → Result Compiled Diag) where
  then_put : (a b : Files) (p : PlannedUnit) (ps : List PlannedUnit) (input : CompileInput) (r : Result PlainUnit Diag)
      (rest : PlainUnit → Build) (q : List ℕ)
      → ((u : PlainUnit) → r ≡ Ok u → u.input.unit ≡ p.unit)
      → ((u : PlainUnit) (a b : Files) → Contains (paths_of (rest u).units) q
      → get (with_units a ps (compiled_units (rest u).units)) q
      ≡ get (with_units b ps (compiled_units (rest u).units)) q)
      → Contains (paths_of (then_build input r rest).units) q
      → get (with_units a (p ∷ ps) (compiled_units (then_build input r rest).units)) q
      ≡ get (with_units b (p ∷ ps) (compiled_units (then_build input r rest).units)) q
  then_put a b p ps input (Err d) rest q name more within = absurd (none_within q within)
  then_put a b p ps input (Ok u) rest q name more within =
      elim (Contains-append_cases (unit_paths (compiled_unit u)) (paths_of (rest u).units) q within) [
        | inl here ↦ units_kept ps (compiled_units (rest u).units) (with_unit a p (compiled_unit u))
            (with_unit b p (compiled_unit u)) q (unit_put a b p (compiled_unit u) q (name u refl) here)
        | inr later ↦ more u (with_unit a p (compiled_unit u)) (with_unit b p (compiled_unit u)) later
      ]

  pub built_put : (ps : List PlannedUnit) (us : List PlainUnit) (a b : Files) (q : List ℕ)
      → Contains (paths_of (build_after compiled us ps).units) q
      → get (with_units a ps (compiled_units (build_after compiled us ps).units)) q
      ≡ get (with_units b ps (compiled_units (build_after compiled us ps).units)) q
  built_put [] us a b q within = absurd (none_within q within)
  built_put (p ∷ ps) us a b q within =
      let input = input_after (compiled_units us) p in
      let n = interface_bytes (compiled_units us) in
      then_put a b p ps input (unit_after compiled (compiled_units us) p)
      (λ u. build_after compiled (us ++ u ∷ []) ps) q
      (λ u is. ap (λ (i : CompileInput). i.unit) (unit_answers n input (compiled input) u is).input_is)
      (λ u a b later. built_put ps (us ++ u ∷ []) a b q later) within

pub builds_leave : BuildsLeaveAlike
builds_leave compiled planned a b = record {
  units = λ path within. built_put compiled planned [] a b path within;
  others = λ path same. units_kept planned (compiled_units (build_after compiled [] planned).units) a b path same;
}
