-- What a folder's files have at a path after a file is set or taken away.
use Rattle.std.proofs.Common.{◌≡◌, ◌≢◌, ap, sym, ◌∙◌, refl, Bool, true, false, cond, not, ℕ, Some, None, List}
use Rattle.std.specs.Ordering.{nat_cmp, is_eq, eq_by_cmp}
use Rattle.std.specs.declared.cmp.Ordering.{Ordering}
use Rattle.std.specs.declared.cmp.Ordering.TheVariants.{Less, Equal, Greater}
use Rattle.std.specs.Cmp.{tied_itself}
use Rattle.std.specs.Cmp.Lexicographic.{slice_cmp, nat_list_cmp_total}
use Rattle.std.specs.FinMap.{get, insert, remove, get-insert, get-remove, get-retain_keys}
use Rattle.std.proofs.lemmas.Map.Lookups.{exact_bytes}
use Rattle.cm_base.specs.Files.{Files, HasNoStore, is_stored, store_part, project_part}

equal_of : (r : Ordering) → is_eq r ≡ true → r ≡ Equal
equal_of Less h = cc
equal_of Equal h = cc
equal_of Greater h = cc

-- two paths that tie are one
pub same_path : (q p : List ℕ) → eq_by_cmp (slice_cmp nat_cmp) q p ≡ true → q ≡ p
same_path q p h = exact_bytes q p (equal_of _ h)

pub path_ties : (p : List ℕ) → eq_by_cmp (slice_cmp nat_cmp) p p ≡ true
path_ties p = ap is_eq (tied_itself nat_list_cmp_total p)

-- another path doesn't tie
pub other_path : (q p : List ℕ) → q ≢ p → eq_by_cmp (slice_cmp nat_cmp) q p ≡ false
other_path q p apart =
    elim (eq_by_cmp (slice_cmp nat_cmp) q p) as (λ b. eq_by_cmp (slice_cmp nat_cmp) q p ≡ b → b ≡ false) [
      | true ↦ λ e. absurd (apart (same_path q p e))
      | false ↦ λ e. refl
    ] refl

-- a file that was set is there
pub get-insert_same : (files : Files) (path bytes : List ℕ) → get (insert files path bytes) path ≡ Some bytes
get-insert_same files path bytes =
    get-insert nat_list_cmp_total files path bytes path ∙ ap (λ b. cond b (Some bytes) (get files path)) (path_ties path)

-- each other file stays
pub get-insert_other : (files : Files) (path bytes q : List ℕ) → q ≢ path → get (insert files path bytes) q ≡ get files q
get-insert_other files path bytes q apart =
    get-insert nat_list_cmp_total files path bytes q ∙ ap (λ b. cond b (Some bytes) (get files q)) (other_path q path apart)

-- a file that was taken away isn't there
pub get-remove_same : (files : Files) (path : List ℕ) → get (remove files path) path ≡ None
get-remove_same files path =
    get-remove nat_list_cmp_total files path path ∙ ap (λ b. cond b None (get files path)) (path_ties path)

pub get-remove_other : (files : Files) (path q : List ℕ) → q ≢ path → get (remove files path) q ≡ get files q
get-remove_other files path q apart =
    get-remove nat_list_cmp_total files path q ∙ ap (λ b. cond b None (get files q)) (other_path q path apart)

-- the store's part of a folder
pub get-store_part : (files : Files) (path : List ℕ) → get (store_part files) path ≡ cond (is_stored path) (get files path) None
unfolding store_part
get-store_part files path =
    get-retain_keys files is_stored path (λ q tied. ap is_stored (sym (exact_bytes path q tied)))

-- .. and the project's
pub get-project_part : (files : Files) (path : List ℕ) → get (project_part files) path ≡ cond (is_stored path) None (get files path)
unfolding project_part
get-project_part files path =
    get-retain_keys files (λ q. not (is_stored q)) path
    (λ q tied. ap (λ p. not (is_stored p)) (sym (exact_bytes path q tied)))
    ∙ turned (is_stored path)
  where
    turned : (b : Bool) → cond (not b) (get files path) None ≡ cond b None (get files path)
    turned true = refl
    turned false = refl

-- a file that the project's part has is none of the store
pub project_apart : (files : Files) → HasNoStore (project_part files)
project_apart files = record { none = λ path bytes there. apart path bytes (is_stored path) refl there }
  where
    apart : (path bytes : List ℕ) (b : Bool) → is_stored path ≡ b → get (project_part files) path ≡ Some bytes
        → is_stored path ≡ false
    apart path bytes false is there = is
    apart path bytes true is there =
        let none : get (project_part files) path ≡ None =
        get-project_part files path ∙ ap (λ b. cond b None (get files path)) is in
        absurd (cc (none, there))
