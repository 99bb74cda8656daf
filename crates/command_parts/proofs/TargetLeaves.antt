-- What writing a target leaves: nothing else changes, and a good store stays good, since the target lies outside it.
use Rattle.std.proofs.Common.{◌⊎◌, ◌≡◌, ◌≢◌, ◌∙◌, sym, ap, subst, refl, inl, inr, ℕ, List, [], Option, Some, None, true, false, take}
use Rattle.std.specs.FinMap.{get, insert}
use Rattle.cm_base.specs.Definitions.{Definitions}
use Rattle.cm_base.specs.Files.{Files, is_stored, told}
use Rattle.cm_base.specs.Keeping.{Keeps, Touches}
use Rattle.cm_base.proofs.FileLemmas.{get-insert_other, get-insert_same}
use Rattle.cm_base.proofs.KeepingLemmas.{keeps_same, keeps_touches, touches_same}
use Rattle.bin_store.specs.GoodStore.{StoreIsGood}
use Rattle.bin_store.specs.Paths.{linked_path}
use Rattle.bin_store.proofs.Elsewhere.{good_elsewhere, linked_stored}
use Rattle.bin_store.proofs.GoodAfter.{store_same}
use Rattle.build_laws.specs.Left.{KeepsProject}
use Rattle.command_parts.specs.Answers.{IsOutside, TouchesTarget, WritesLinked}
use Rattle.command_parts.specs.Headline.{FollowsLinked, KeepsOthers}
use Rattle.command_parts.specs.Meaning.{target_paths, then_write}

pub target_keeps : (target : Option (List ℕ)) (bytes : List ℕ) (old new : Option Files)
    → TouchesTarget target bytes old new → Keeps old new (target_paths target)
target_keeps None bytes old new same = keeps_same old new [] same
target_keeps (Some path) bytes old new touched = keeps_touches touched

-- where it isn't written
pub untouched : (target : Option (List ℕ)) (bytes : List ℕ) (old : Option Files) → TouchesTarget target bytes old old
untouched None bytes old = refl
untouched (Some path) bytes old = touches_same old old path bytes refl

-- a path of the store isn't one outside
stored_apart : (path stored : List ℕ) → is_stored path ≡ false → is_stored stored ≡ true → stored ≢ path
stored_apart path stored outside inside same = let at = ap is_stored same in absurd (cc (outside, inside, at))

outside_apart : (path : List ℕ) → is_stored path ≡ false → path ≢ linked_path
outside_apart path outside same = stored_apart path linked_path outside linked_stored (sym same)

pub target_good : (by : Definitions) (texts : List (List ℕ)) (target : Option (List ℕ)) (bytes : List ℕ)
    (old new : Option Files) → IsOutside target → TouchesTarget target bytes old new → StoreIsGood by texts old
    → StoreIsGood by texts new
target_good by texts None bytes old new outside same good = store_same same good
target_good by texts (Some path) bytes old new outside touched good =
    let left = touched.rest good.files good.told in
    record {
      files = left.0;
      told = left.1;
      good = good_elsewhere by texts good.files left.0
          (λ stored inside. left.2 stored (stored_apart path stored outside inside)) good.good;
    }

-- ---- other paths

target_outside : (target : Option (List ℕ)) (path : List ℕ) → IsOutside target → target ≡ Some path
    → is_stored path ≡ false
target_outside target path outside is = subst IsOutside is outside

-- where the target wasn't reached
pub others_of : (Is : List ℕ → Type 0) (target : Option (List ℕ)) (files : Files) (holds : Option Files)
    → IsOutside target → KeepsProject files holds → KeepsOthers Is target files holds
others_of Is target files holds outside kept = record {
  after = kept.after;
  tells = kept.tells;
  kept = λ path out apart. kept.kept path out;
  last = λ path is. inl (kept.kept path (target_outside target path outside is));
}

pub others_same : (Is : List ℕ → Type 0) (target : Option (List ℕ)) (files : Files) (old new : Option Files)
    → IsOutside target → new ≡ old → KeepsProject files old → KeepsOthers Is target files new
others_same Is target files old new outside same kept =
    others_of Is target files new outside (record { after = kept.after; tells = same ∙ kept.tells; kept = kept.kept })

-- .. after a write of the linked program
pub linked_kept : (files : Files) (old new : Option Files) (bytes : List ℕ) → Touches old new linked_path bytes
    → KeepsProject files old → KeepsProject files new
linked_kept files old new bytes touched kept =
    let left = touched.rest kept.after kept.tells in
    record {
      after = left.0;
      tells = left.1;
      kept = λ path outside. left.2 path (outside_apart path outside) ∙ kept.kept path outside;
    }

-- ---- the target, once the linked program is written

module _ (Is : List ℕ → Type 0) (files before : Files) (path bytes : List ℕ) (new : Option Files) (meant : Is bytes)
    (outside : is_stored path ≡ false)
    (kept : (q : List ℕ) → is_stored q ≡ false → get before q ≡ get files q)
    (touched : Touches (Some (insert before linked_path bytes)) new path bytes) where
  abbrev between : Files
  between = insert before linked_path bytes

  still : (q : List ℕ) → is_stored q ≡ false → get between q ≡ get files q
  still q out = get-insert_other before linked_path bytes q (outside_apart q out) ∙ kept q out

  last_write : KeepsOthers Is (Some path) files new
  last_write =
      let left = touched.rest between refl in
      record {
        after = left.0;
        tells = left.1;
        kept = λ q out apart. left.2 q (λ same. apart (ap Some (sym same))) ∙ still q out;
        last = λ q is.
            let same : path ≡ q = cc in
            subst (λ p. (get left.0 p ≡ get files p) ⊎ FollowsLinked Is p left.0) same
            (by_here left.0 (left.2 linked_path (λ at. outside_apart path outside (sym at))) left.3);
      }
    where
      by_here : (after : Files) → get after linked_path ≡ get between linked_path
          → (get after path ≡ get between path) ⊎ ((get after path ≡ None) ⊎ ((n : ℕ) × (get after path ≡ Some (take n bytes))))
          → (get after path ≡ get files path) ⊎ FollowsLinked Is path after
      by_here after linked (inl same) = inl (same ∙ still path outside)
      by_here after linked (inr front) =
          inr (record {
            bytes = bytes;
            is = meant;
            linked = linked ∙ get-insert_same before linked_path bytes;
            front = front;
          })

-- nothing is written besides where there is no target
only_linked : (Is : List ℕ → Type 0) (files : Files) (bytes : List ℕ) (old new : Option Files)
    → WritesLinked None bytes old new → KeepsProject files old → KeepsOthers Is None files new
only_linked Is files bytes old new wrote kept =
    others_same Is None files wrote.between new tt wrote.added (linked_kept files old wrote.between bytes wrote.linked kept)

with_target : (Is : List ℕ → Type 0) (files : Files) (path bytes : List ℕ) (old new : Option Files) → Is bytes
    → is_stored path ≡ false → (wrote : WritesLinked (Some path) bytes old new) → KeepsProject files old
    → KeepsOthers Is (Some path) files new
with_target Is files path bytes old new meant outside wrote kept =
    elim wrote.order [
      | inl same ↦ others_same Is (Some path) files wrote.between new outside same
          (linked_kept files old wrote.between bytes wrote.linked kept)
      | inr whole ↦
          let at : wrote.between ≡ Some (insert kept.after linked_path bytes) =
          whole ∙ ap (told (λ f. insert f linked_path bytes)) kept.tells in
          last_write Is files kept.after path bytes new meant outside kept.kept
          (subst (λ b. Touches b new path bytes) at wrote.added)
    ]

pub target_others : (Is : List ℕ → Type 0) (target : Option (List ℕ)) (files : Files) (bytes : List ℕ)
    (old new : Option Files) → Is bytes → IsOutside target → WritesLinked target bytes old new
    → KeepsProject files old → KeepsOthers Is target files new
target_others Is None files bytes old new meant outside wrote kept = only_linked Is files bytes old new wrote kept
target_others Is (Some path) files bytes old new meant outside wrote kept =
    with_target Is files path bytes old new meant outside wrote kept

-- the linked program is among the files that are meant
pub linked_meant : (target : Option (List ℕ)) (bytes : List ℕ) (files : Files) → IsOutside target
    → get (then_write target bytes (insert files linked_path bytes)) linked_path ≡ Some bytes
linked_meant None bytes files outside = get-insert_same files linked_path bytes
linked_meant (Some path) bytes files outside =
    get-insert_other (insert files linked_path bytes) path bytes linked_path
    (stored_apart path linked_path outside linked_stored)
    ∙ get-insert_same files linked_path bytes
