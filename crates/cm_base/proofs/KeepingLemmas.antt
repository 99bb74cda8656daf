-- How what stays of a folder passes from call to call.
use Rattle.std.proofs.Common.{◌≡◌, ◌∙◌, sym, ap, refl, inl, inr, ℕ, List, [], ◌∷◌, ◌++◌, Option, take, length, arith}
use Rattle.std.specs.Prelude.{Contains, Result, Ok, Err}
use Rattle.std.specs.FinMap.{insert, remove}
use Rattle.std.proofs.lemmas.List.Elements.{Contains-append_left, Contains-append_right}
use Rattle.std.proofs.Math.Seq.{take-length}
use Rattle.cm_base.specs.Files.{Files, told}
use Rattle.cm_base.specs.Keeping.{Keeps, Touches}
use Rattle.cm_base.specs.Calls.{WriteLeaves}
use Rattle.cm_base.specs.declared.fault.FolderFault.{FolderFault}
use Rattle.cm_base.specs.declared.fault.FolderFault.TheVariants as folder
use Rattle.cm_base.proofs.FileLemmas.{get-insert_same, get-insert_other, get-remove_same, get-remove_other}

-- where nothing changed, everything is as it was
pub keeps_same : (old new : Option Files) (paths : List (List ℕ)) → new ≡ old → Keeps old new paths
keeps_same old new paths same = record { rest = λ before is. (before, same ∙ is, λ q outside. refl) }

-- one change and then another leave what neither writes
pub keeps_then : {a b c : Option Files} {ps qs : List (List ℕ)} → Keeps a b ps → Keeps b c qs → Keeps a c (ps ++ qs)
keeps_then {ps = ps} {qs = qs} first second = record {
  rest = λ before is.
      let one = first.rest before is in
      let two = second.rest one.0 one.1 in (
        two.0,
        two.1,
        λ q outside.
            two.2 q (λ h. outside (Contains-append_right ps qs q h)) ∙ one.2 q (λ h. outside (Contains-append_left ps qs q h)),
      );
}

-- what stays outside some paths stays outside more
pub keeps_wider : {a b : Option Files} {ps qs : List (List ℕ)} → Keeps a b ps
    → ((q : List ℕ) → Contains ps q → Contains qs q) → Keeps a b qs
keeps_wider kept more = record {
  rest = λ before is.
      let one = kept.rest before is in (one.0, one.1, λ q outside. one.2 q (λ h. outside (more q h)));
}

-- nothing written touches nothing
pub touches_same : (old new : Option Files) (path bytes : List ℕ) → new ≡ old → Touches old new path bytes
touches_same old new path bytes same = record { rest = λ before is. (before, same ∙ is, λ q apart. refl, inl refl) }

touches_removed : (old new : Option Files) (path bytes : List ℕ) → new ≡ told (λ files. remove files path) old → Touches old new path bytes
touches_removed old new path bytes gone = record {
  rest = λ before is. (
    remove before path,
    gone ∙ ap (told (λ files. remove files path)) is,
    λ q apart. get-remove_other before path q apart,
    inr (inl (get-remove_same before path)),
  );
}

touches_front : (old new : Option Files) (path bytes : List ℕ) (n : ℕ)
    → new ≡ told (λ files. insert files path (take n bytes)) old → Touches old new path bytes
touches_front old new path bytes n put = record {
  rest = λ before is. (
    insert before path (take n bytes),
    put ∙ ap (told (λ files. insert files path (take n bytes))) is,
    λ q apart. get-insert_other before path (take n bytes) q apart,
    inr (inr (n, get-insert_same before path (take n bytes))),
  );
}

-- a whole write
pub touches_written : (old new : Option Files) (path bytes : List ℕ)
    → new ≡ told (λ files. insert files path bytes) old → Touches old new path bytes
touches_written old new path bytes put =
    touches_front old new path bytes (length bytes)
    (put ∙ ap (λ whole. told (λ (files : Files). insert files path whole) old) (sym (take-length bytes)))

-- whatever a write answers, it touches its path alone
pub touches_write : (result : Result (Unit {0}) FolderFault) (old new : Option Files) (path bytes : List ℕ)
    → WriteLeaves result old new path bytes → Touches old new path bytes
touches_write (Ok done) old new path bytes put = touches_written old new path bytes put
touches_write (Err folder.Failed) old new path bytes (inl same) = touches_same old new path bytes same
touches_write (Err folder.Failed) old new path bytes (inr (inl gone)) = touches_removed old new path bytes gone
touches_write (Err folder.Failed) old new path bytes (inr (inr (n, put))) = touches_front old new path bytes n put
touches_write (Err folder.NoMemory) old new path bytes same = touches_same old new path bytes same

-- what a write touches is its path
pub keeps_touches : {old new : Option Files} {path bytes : List ℕ} → Touches old new path bytes → Keeps old new (path ∷ [])
keeps_touches {path = path} touched = record {
  rest = λ before is.
      let one = touched.rest before is in
      (one.0, one.1, λ q outside. one.2 q (λ same. outside (here path q same)));
}
  where
    here : (p q : List ℕ) → q ≡ p → Contains (p ∷ []) q
    here p q same = (0, omega arith, sym same)
