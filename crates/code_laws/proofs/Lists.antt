-- Lists whose items have a code have one, where their bytes are few enough; and what holds of each item.
use Rattle.std.proofs.Common.{◌≡◌, ℕ, suc, ◌<◌, ◌≤◌, ◌^◌, max, Bool, true, false, ◌&&◌, List, [], ◌∷◌, ◌++◌, length, map, flat_map, All, Option, Some, None, option_map, refl, ap, ap₂, subst, arith, length-append}
use Rattle.std.specs.List.{list_all}
use Rattle.std.proofs.lemmas.List.{length-map}
use Rattle.std.proofs.lemmas.List.Elements.{All-nil, All-cons}
use Rattle.cm_bytes.specs.Fields.{u32_of, text_of, list_of}
use Rattle.cm_bytes.proofs.Fields.{length-u32_of}
use Rattle.sml_trees.specs.CoreLets.{all_true}
use Rattle.sml_trees.specs.declared.name.Name.{Name}
use Rattle.sml_trees.specs.declared.name.LongName.{LongName}
use Rattle.sml_syntax.specs.Code.{parts, option_of, name_of, long_of}
use Rattle.sml_syntax.specs.Places.{unplaced_name, unplaced_long}
use Rattle.sml_syntax.specs.Reading.{IsShort, IsName, IsLong, AreAll, IfThere}
use Rattle.tree_heights.specs.Heights.{highest}
use Rattle.tree_heights.proofs.Highest.{highest_with-is}

-- ---- bytes whose number four bytes hold

abbrev pub Small : List ℕ → Type 0
Small bytes = length bytes < 2 ^ 32

-- bytes of which there is one at least
abbrev pub Full : List ℕ → Type 0
Full bytes = 1 ≤ length bytes

pub small_left : (a b : List ℕ) → Small (a ++ b) → Small a
small_left a b small = let count = length-append a b in omega (arith, count)

pub small_right : (a b : List ℕ) → Small (a ++ b) → Small b
small_right a b small = let count = length-append a b in omega (arith, count)

pub small_tail : (tag : ℕ) (a : List ℕ) → Small (tag ∷ a) → Small a
small_tail tag a small = let less : length a < suc (length a) = omega arith in omega (arith, less)

pub full_left : (a b : List ℕ) → Full a → Full (a ++ b)
full_left a b full = let count = length-append a b in omega (arith, count)

pub text_full : (text : List ℕ) → Full (text_of text)
unfolding text_of
text_full text = full_left (u32_of (length text)) text (let four = length-u32_of (length text) in omega (arith, four))

pub list_full : {A : Type 0} (item_of : A → List ℕ) (xs : List A) → Full (list_of item_of xs)
unfolding list_of
list_full item_of xs =
    full_left (u32_of (length xs)) (flat_map item_of xs) (let four = length-u32_of (length xs) in omega (arith, four))

-- parts that are the spellings of the items of a list are the list's spelling
parts_map : {A : Type 0} (item_of : A → List ℕ) (xs : List A) → parts (map item_of xs) ≡ list_of item_of xs
unfolding parts list_of
parts_map item_of xs = ap₂ (λ n bytes. u32_of n ++ bytes) (length-map xs item_of) (joined item_of xs)
  where
    joined : {A : Type 0} (item_of : A → List ℕ) (xs : List A)
        → flat_map (λ item. item) (map item_of xs) ≡ flat_map item_of xs
    joined item_of [] = refl
    joined item_of (x ∷ xs) = ap (λ bytes. item_of x ++ bytes) (joined item_of xs)

-- ---- what holds of each item of a list

abbrev pub Each : {A : Type 0} → (A → Type 0) → List A → Type 0
Each P [] = Unit {0}
Each P (x ∷ xs) = P x × Each P xs

pub each_any : {A : Type 0} (xs : List A) → Each (λ x. Unit {0}) xs
each_any [] = tt
each_any (x ∷ xs) = (tt, each_any xs)

pub each_both : {A : Type 0} (P Q : A → Type 0) (xs : List A) → Each P xs → Each Q xs → Each (λ x. P x × Q x) xs
each_both P Q [] first second = tt
each_both P Q (x ∷ xs) first second = ((first.0, second.0), each_both P Q xs first.1 second.1)

-- none is higher than the highest
pub each_low : {A : Type 0} (height : A → ℕ) (n : ℕ) (xs : List A) → highest (map height xs) ≤ n
    → Each (λ x. height x ≤ n) xs
each_low height n [] low = tt
each_low height n (x ∷ xs) low =
    let is = highest_with-is (max 0 (height x)) (map height xs) in
    let here : height x ≤ n = omega (arith, is) in
    let rest : highest (map height xs) ≤ n = omega (arith, is) in
    (here, each_low height n xs rest)

pub and_one : (a b : Bool) → a && b ≡ true → a ≡ true
and_one true b is = refl
and_one false b is = is

pub and_two : (a b : Bool) → a && b ≡ true → b ≡ true
and_two true b is = is
and_two false b is = absurd (cc)

pub each_true : {A : Type 0} (test : A → Bool) (xs : List A) → all_true (map test xs) ≡ true
    → Each (λ x. test x ≡ true) xs
each_true test [] is = tt
each_true test (x ∷ xs) is =
    (and_one (test x) (all_true (map test xs)) is, each_true test xs (and_two (test x) (all_true (map test xs)) is))

pub each_all : {A : Type 0} (test : A → Bool) (xs : List A) → list_all test xs ≡ true → Each (λ x. test x ≡ true) xs
each_all test [] is = tt
each_all test (x ∷ xs) is =
    (and_one (test x) (list_all test xs) is, each_all test xs (and_two (test x) (list_all test xs) is))

-- ---- lists

-- items of which this holds, and whose bytes are few, have a code
abbrev pub Reads : {A : Type 0} → (A → List ℕ) → (A → A) → (A → Type 0) → (A → Type 0) → Type 0
Reads {A} item_of f Has Is = (x : A) → Has x → Small (item_of x) → Is (f x)

module _ {A : Type 0} (item_of : A → List ℕ) (f : A → A) (Has Is : A → Type 0)
    (full : (x : A) → Full (item_of x)) (reads : Reads item_of f Has Is) where
  fewer : (xs : List A) → length xs ≤ length (flat_map item_of xs)
  fewer [] = omega arith
  fewer (x ∷ xs) =
      let count = length-append (item_of x) (flat_map item_of xs) in
      let here = full x in
      let rest = fewer xs in
      omega (arith, count, here, rest)

  all_read : (xs : List A) → Each Has xs → Small (flat_map item_of xs) → All Is (map f xs)
  all_read [] has small = All-nil Is
  all_read (x ∷ xs) has small =
      All-cons Is (f x) (map f xs)
      (reads x has.0 (small_left (item_of x) (flat_map item_of xs) small))
      (all_read xs has.1 (small_right (item_of x) (flat_map item_of xs) small))

  -- a list of such items, by its bytes
  pub list_reads : (xs : List A) → Each Has xs → Small (list_of item_of xs) → AreAll Is (map f xs)
  unfolding list_of
  list_reads xs has small =
      let items : Small (flat_map item_of xs) = small_right (u32_of (length xs)) (flat_map item_of xs) small in
      let few = fewer xs in
      let same = length-map xs f in
      let short : length (map f xs) < 2 ^ 32 = omega (arith, items, few, same) in
      (short, all_read xs has items)

  -- .. whose items are spelled already
  pub parts_read : (xs : List A) → Each Has xs → Small (parts (map item_of xs)) → AreAll Is (map f xs)
  parts_read xs has small = list_reads xs has (subst Small (parts_map item_of xs) small)

  -- what may be absent
  pub option_reads : (x : Option A) → IfThere Has x → Small (option_of item_of x) → IfThere Is (option_map f x)
  option_reads None has small = tt
  option_reads (Some x) has small = reads x has (small_tail 1 (item_of x) small)

-- ---- names

pub text_reads : (text : List ℕ) → Small (text_of text) → IsShort text
unfolding text_of
text_reads text small = small_right (u32_of (length text)) text small

pub name_reads : (name : Name) → Small (name_of name) → IsName (unplaced_name name)
name_reads name small = record { short = text_reads name.text small; at = refl }

pub names_read : (names : List Name) → Small (list_of name_of names) → AreAll IsName (map unplaced_name names)
names_read names small =
    list_reads name_of unplaced_name (λ name. Unit {0}) IsName (λ name. text_full name.text)
    (λ name has small. name_reads name small) names (each_any names) small

texts_read : (texts : List (List ℕ)) → Small (list_of text_of texts) → AreAll IsShort (map (λ text. text) texts)
texts_read texts small =
    list_reads text_of (λ text. text) (λ text. Unit {0}) IsShort text_full (λ text has small. text_reads text small)
    texts (each_any texts) small

same_texts : (texts : List (List ℕ)) → map (λ text. text) texts ≡ texts
same_texts [] = refl
same_texts (text ∷ texts) = ap (λ rest. text ∷ rest) (same_texts texts)

pub long_reads : (long : LongName) → Small (long_of long) → IsLong (unplaced_long long)
long_reads long small =
    let are : AreAll IsShort long.parts = subst (AreAll IsShort) (same_texts long.parts) (texts_read long.parts small) in
    record { short = are.0; each = are.1; at = refl }

pub longs_read : (longs : List LongName) → Small (list_of long_of longs) → AreAll IsLong (map unplaced_long longs)
longs_read longs small =
    list_reads long_of unplaced_long (λ long. Unit {0}) IsLong (λ long. list_full text_of long.parts)
    (λ long has small. long_reads long small) longs (each_any longs) small
