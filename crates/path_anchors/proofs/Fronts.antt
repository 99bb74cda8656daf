-- The fronts of a path by its components are the path, and what stands before each of its slashes.
use Rattle.std.proofs.Common.{◌≡◌, ◌∙◌, ap, ap₂, sym, refl, ℕ, ◌+◌, ◌<◌, ◌≤◌, ◌==◌, ◌&&◌, ◌||◌, Bool, true, false, nat_eq, List, [], ◌∷◌, ◌++◌, length, take, drop, append-nil, append_assoc, take_all}
use Rattle.std.specs.List.{list_any}
use Rattle.std.specs.Cmp.Lexicographic.{nat_list_eq_equiv}
use Rattle.std.proofs.lemmas.List.{drop_more, drop_all, take_more}
use Rattle.path_anchors.specs.Names.{parts_of, begins_with}
use Rattle.path_anchors.specs.Tables.{holds, slash_at}
use Rattle.path_anchors.proofs.PartLemmas.{below_bytes, begins_with_below}
use lib.Pointwise.{pointwise}

abbrev is_slash : ℕ → Bool
is_slash byte = byte == 47

-- whether a test holds of a front of a path that is as long as `before`, or longer; `rest` is what follows that
abbrev pub front_from : (List ℕ → Bool) → List ℕ → List ℕ → Bool
front_from test before [] = test before
front_from test before (byte ∷ rest) = (is_slash byte && test before) || front_from test (before ++ byte ∷ []) rest

-- .. of any front
abbrev any_front : (List ℕ → Bool) → List ℕ → Bool
any_front test [] = test []
any_front test (byte ∷ rest) = (is_slash byte && test []) || any_front (λ front. test (byte ∷ front)) rest

front_from-any : (test : List ℕ → Bool) (rest before : List ℕ)
    → front_from test before rest ≡ any_front (λ front. test (before ++ front)) rest
front_from-any test [] before = ap test (sym (append-nil before))
front_from-any test (byte ∷ rest) before =
    ap₂ (λ here later. (is_slash byte && here) || later) (ap test (sym (append-nil before)))
    (front_from-any test rest (before ++ byte ∷ [])
    ∙ (λ j. any_front (λ front. test (append_assoc before (byte ∷ []) front j)) rest))

-- ---- one path as the front of another

and_false : (b : Bool) → (b && false) ≡ false
and_false true = refl
and_false false = refl

and_true_or : (b : Bool) → ((b && true) || false) ≡ b
and_true_or true = refl
and_true_or false = refl

and_false_or : (b c : Bool) → ((b && false) || c) ≡ c
and_false_or true c = refl
and_false_or false c = refl

no_front : (path : List ℕ) → any_front (λ front. false) path ≡ false
no_front [] = refl
no_front (byte ∷ path) = and_false_or (is_slash byte) (any_front (λ front. false) path) ∙ no_front path

-- a path is a front of one where it is below it
any_front-below : (path found : List ℕ) → any_front (λ front. pointwise nat_eq found front) path ≡ below_bytes path found
any_front-below [] [] = refl
any_front-below [] (first ∷ found) = refl
any_front-below (byte ∷ path) [] =
    ap (λ later. (is_slash byte && true) || later) (no_front path) ∙ and_true_or (is_slash byte)
any_front-below (byte ∷ path) (first ∷ found) =
    and_false_or (is_slash byte) _ ∙ by_byte (nat_eq first byte) (any_front-below path found)
  where
    by_byte : (b : Bool) → any_front (λ front. pointwise nat_eq found front) path ≡ below_bytes path found
        → any_front (λ front. b && pointwise nat_eq found front) path ≡ (b && below_bytes path found)
    by_byte true same = same
    by_byte false same = no_front path

-- .. so that its components are the first ones
any_front-begins : (path found : List ℕ)
    → any_front (λ front. pointwise nat_eq found front) path ≡ begins_with (parts_of path) (parts_of found)
any_front-begins path found = any_front-below path found ∙ sym (begins_with_below path found)

pub front_from-begins : (path found : List ℕ)
    → front_from (λ front. pointwise nat_eq found front) [] path ≡ begins_with (parts_of path) (parts_of found)
front_from-begins path found = front_from-any (λ front. pointwise nat_eq found front) path [] ∙ any_front-begins path found

-- ---- one of several

shuffled : (b x y p q : Bool) → ((b && (x || y)) || (p || q)) ≡ (((b && x) || p) || ((b && y) || q))
shuffled false x y p q = refl
shuffled true true y p q = refl
shuffled true false true true q = refl
shuffled true false true false q = refl
shuffled true false false p q = refl

any_front-either : (s t : List ℕ → Bool) (path : List ℕ)
    → any_front (λ front. s front || t front) path ≡ (any_front s path || any_front t path)
any_front-either s t [] = refl
any_front-either s t (byte ∷ path) =
    ap (λ later. (is_slash byte && (s [] || t [])) || later)
    (any_front-either (λ front. s (byte ∷ front)) (λ front. t (byte ∷ front)) path)
    ∙ shuffled (is_slash byte) (s []) (t []) _ _

-- a path of several is a front of one
pub any_front-among : {A : Type 0} (path_at : A → List ℕ) (items : List A) (path : List ℕ)
    → any_front (λ front. list_any (λ item. pointwise nat_eq front (path_at item)) items) path
    ≡ list_any (λ item. begins_with (parts_of path) (parts_of (path_at item))) items
any_front-among path_at [] path = no_front path
any_front-among path_at (item ∷ items) path =
    any_front-either (λ front. pointwise nat_eq front (path_at item))
    (λ front. list_any (λ item. pointwise nat_eq front (path_at item)) items) path
    ∙ ap₂ (λ here later. here || later)
    ((λ j. any_front (λ front. nat_list_eq_equiv.symm front (path_at item) j) path) ∙ any_front-begins path (path_at item))
    (any_front-among path_at items path)

pub front_from-holds : (table : List (List ℕ)) (path : List ℕ)
    → front_from (holds table) [] path ≡ list_any (λ front. begins_with (parts_of path) (parts_of front)) table
front_from-holds table path = front_from-any (holds table) path [] ∙ any_front-among (λ front. front) table path

-- what is true of each path is true of the fronts
pub list_any-begins : {A : Type 0} (path_at : A → List ℕ) (items : List A) (table : List (List ℕ)) (path : List ℕ)
    → ((found : List ℕ) → holds table found ≡ list_any (λ item. pointwise nat_eq found (path_at item)) items)
    → list_any (λ front. begins_with (parts_of path) (parts_of front)) table
    ≡ list_any (λ item. begins_with (parts_of path) (parts_of (path_at item))) items
list_any-begins path_at items table path finds =
    sym (any_front-among (λ front. front) table path)
    ∙ (λ j. any_front (λ front. finds front j) path)
    ∙ any_front-among path_at items path

-- ---- a loop over the places of a path

-- at a place, the fronts are what stands before it, if a slash stands there, and those that are longer
pub front_from-step : (test : List ℕ → Bool) (path : List ℕ) (at : ℕ) → at < length path
    → front_from test (take at path) (drop at path)
    ≡ ((slash_at path at && test (take at path)) || front_from test (take (at + 1) path) (drop (at + 1) path))
front_from-step test path at lt =
    ap (front_from test (take at path)) (drop_more path at 0 lt)
    ∙ ap (λ before. (slash_at path at && test (take at path)) || front_from test before (drop (at + 1) path))
    (sym (take_more path at 0 lt))

-- at the end there is the path alone
pub front_from-end : (test : List ℕ → Bool) (path : List ℕ) (at : ℕ) → length path ≤ at
    → front_from test (take at path) (drop at path) ≡ test path
front_from-end test path at le = ap (front_from test (take at path)) (drop_all at path le) ∙ ap test (take_all at path le)
