-- What linking leaves: the linked program's path and the target are the only ones that it writes; the one lies in the
-- store, and the other outside.
use Rattle.std.proofs.Common.{◌≡◌, ◌∙◌, sym, ap, subst, refl, inl, inr, ℕ, List, ◌∷◌, Option, Some, None, false, cond, nat_lt, length}
use Rattle.cm_base.specs.Definitions.{Definitions}
use Rattle.cm_base.specs.Diags.{whole_file}
use Rattle.cm_base.specs.Files.{Files}
use Rattle.cm_base.specs.Keeping.{Keeps}
use Rattle.cm_base.specs.declared.diag.Diag.{Diag}
use Rattle.cm_base.specs.declared.record.BuiltUnit.{BuiltUnit}
use Rattle.cm_base.proofs.KeepingLemmas.{keeps_same, keeps_then, keeps_touches}
use Rattle.bin_store.specs.GoodStore.{StoreIsGood}
use Rattle.bin_store.specs.Paths.{linked_path}
use Rattle.bin_store.proofs.GoodAfter.{store_same, store_after_linked}
use Rattle.build_laws.specs.Left.{KeepsProject}
use Rattle.linker.specs.Linked.{linked_program}
use Rattle.command_parts.specs.Answers.{IsOutside, TouchesLinked, WritesLinked}
use Rattle.command_parts.specs.Headline.{KeepsOthers, MeansLinked}
use Rattle.command_parts.specs.declared.limits.TheConstants.{LINKED}
use Rattle.command_parts.specs.Meaning.{link_fault, linked_paths, status_of, target_paths, with_linked}
use Rattle.command_parts.specs.declared.status.Status.TheVariants as status
use Rattle.command_parts.proofs.TargetLeaves.{linked_meant, others_same, target_good, target_keeps, target_others}

-- a program within its limit is no fault
pub link_is_well : (units : List BuiltUnit) (file : List ℕ) → file ≡ linked_program units
    → nat_lt LINKED (length file) ≡ false → link_fault units ≡ None
unfolding link_fault
link_is_well units file is short =
    ap (λ long. cond long (Some (whole_file 12 linked_path)) None)
    (ap (λ bytes. nat_lt LINKED (length bytes)) (sym is) ∙ short)

wrote_keeps : (target : Option (List ℕ)) (bytes : List ℕ) (old new : Option Files) → WritesLinked target bytes old new
    → Keeps old new (linked_path ∷ target_paths target)
wrote_keeps target bytes old new wrote =
    keeps_then (keeps_touches wrote.linked) (target_keeps target bytes wrote.between new wrote.added)

pub link_keeps : (target : Option (List ℕ)) (fault : Option Diag) (units : List BuiltUnit) (old new : Option Files)
    → TouchesLinked target fault units old new → Keeps old new (linked_paths target fault)
link_keeps target fault units old new (inl same) = keeps_same old new (linked_paths target fault) same
link_keeps target fault units old new (inr left) =
    subst (λ f. Keeps old new (linked_paths target f)) (sym left.well)
    (wrote_keeps target (linked_program units) old new left.writes)

-- a good store stays good
pub link_good : (by : Definitions) (texts : List (List ℕ)) (target : Option (List ℕ)) (fault : Option Diag)
    (units : List BuiltUnit) (old new : Option Files) → IsOutside target → TouchesLinked target fault units old new
    → StoreIsGood by texts old → StoreIsGood by texts new
link_good by texts target fault units old new outside (inl same) good = store_same same good
link_good by texts target fault units old new outside (inr left) good =
    let wrote : WritesLinked target (linked_program units) old new = left.writes in
    target_good by texts target (linked_program units) wrote.between new outside wrote.added
    (store_after_linked by texts old wrote.between (linked_program units) wrote.linked good)

-- the project stays as it was, but for the target, which is written last
pub link_others : (files done : Files) (target : Option (List ℕ)) (fault : Option Diag) (units : List BuiltUnit)
    (old new : Option Files) → IsOutside target → TouchesLinked target fault units old new → KeepsProject files old
    → KeepsOthers (MeansLinked (status_of fault) (with_linked target fault units done)) target files new
link_others files done target fault units old new outside (inl same) kept =
    others_same (MeansLinked (status_of fault) (with_linked target fault units done)) target files old new outside same
    kept
link_others files done target fault units old new outside (inr left) kept =
    subst (λ f. KeepsOthers (MeansLinked (status_of f) (with_linked target f units done)) target files new)
    (sym left.well)
    (target_others (MeansLinked status.Ok (with_linked target None units done)) target files (linked_program units) old
    new (refl, linked_meant target (linked_program units) done outside) outside left.writes kept)
