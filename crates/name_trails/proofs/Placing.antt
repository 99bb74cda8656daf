-- How a table goes with the bindings that it tells of.
use Rattle.std.proofs.Common.{◌≡◌, ℕ, zero, suc, ◌+◌, ◌++◌, ◌&&◌, ◌<◌, ◌≤◌, List, [], ◌∷◌, Bool, true, false, cond, Option, None, Some, refl, ap, sym, subst, ◌∙◌, take, drop, length, get_or, append_assoc, append-nil, arith}
use Rattle.std.specs.Prelude.{is_some, slice_get, ltb}
use Rattle.std.specs.Option.{unwrap_or, option_map}
use Rattle.std.specs.Cmp.Lexicographic.{nat_list_eq_equiv, same_text}
use Rattle.std.proofs.lemmas.Bool.{ltb-true, ltb-false}
use Rattle.indexmap.specs.IndexMap.{get}
use Rattle.name_trails.specs.Trails.{Rows, same, entry_after, last_entry}
use Rattle.name_trails.specs.Places.{place_after, last_place, links_after, links_of, entry_at, PlaceTable, place_in, knows, IsPlaced, Notes, Puts, IsTable}

-- ---- one binding more

place_after_more : {A : Type 0} (held : Option ℕ) (at : ℕ) (rows : Rows A) (row : List ℕ × A) (name : List ℕ)
    → place_after held at (rows ++ row ∷ []) name
    ≡ cond (same row.0 name) (Some (at + length rows)) (place_after held at rows name)
place_after_more held at [] row name = ap (λ n. cond (same row.0 name) (Some n) held) (omega arith)
place_after_more held at (x ∷ rows) row name =
    place_after_more (cond (same x.0 name) (Some at) held) (at + 1) rows row name
    ∙ ap (λ n. cond (same row.0 name) (Some n) (place_after (cond (same x.0 name) (Some at) held) (at + 1) rows name))
    (omega arith)

pub last_more : {A : Type 0} (rows : Rows A) (row : List ℕ × A) (name : List ℕ)
    → last_place (rows ++ row ∷ []) name ≡ cond (same row.0 name) (Some (length rows)) (last_place rows name)
unfolding last_place
last_more rows row name =
    place_after_more None 0 rows row name
    ∙ ap (λ n. cond (same row.0 name) (Some n) (place_after None 0 rows name)) (omega arith)

links_after_more : {A : Type 0} (before rows : Rows A) (row : List ℕ × A)
    → links_after before (rows ++ row ∷ []) ≡ links_after before rows ++ last_place (before ++ rows) row.0 ∷ []
links_after_more {A} before [] row = ap (λ (all : Rows A). last_place all row.0 ∷ []) (sym (append-nil before))
links_after_more {A} before (x ∷ rows) row =
    ap (λ (links : List (Option ℕ)). last_place before x.0 ∷ links)
    (links_after_more (before ++ x ∷ []) rows row
    ∙ ap (λ (all : Rows A). links_after (before ++ x ∷ []) rows ++ last_place all row.0 ∷ [])
    (append_assoc before (x ∷ []) rows))

links_more : {A : Type 0} (rows : Rows A) (row : List ℕ × A)
    → links_of (rows ++ row ∷ []) ≡ links_of rows ++ last_place rows row.0 ∷ []
unfolding links_of
links_more rows row = links_after_more [] rows row

length-links_after : {A : Type 0} (before rows : Rows A) → length (links_after before rows) ≡ length rows
length-links_after before [] = refl
length-links_after before (x ∷ rows) = ap suc (length-links_after (before ++ x ∷ []) rows)

pub length-links : {A : Type 0} (rows : Rows A) → length (links_of rows) ≡ length rows
unfolding links_of
length-links rows = length-links_after [] rows

take-links_after : {A : Type 0} (n : ℕ) (before rows : Rows A)
    → links_after before (take n rows) ≡ take n (links_after before rows)
take-links_after zero before rows = refl
take-links_after (suc n) before [] = refl
take-links_after (suc n) before (x ∷ rows) =
    ap (λ (links : List (Option ℕ)). last_place before x.0 ∷ links) (take-links_after n (before ++ x ∷ []) rows)

take-links : {A : Type 0} (n : ℕ) (rows : Rows A) → links_of (take n rows) ≡ take n (links_of rows)
unfolding links_of
take-links n rows = take-links_after n [] rows

-- the link of a binding
links_after_at : {A : Type 0} (before rows : Rows A) (i : ℕ) (held : Option ℕ) (d : List ℕ × A) → i < length rows
    → get_or (links_after before rows) i held ≡ last_place (before ++ take i rows) (get_or rows i d).0
links_after_at before [] i held d within = absurd (omega (arith, within))
links_after_at {A} before (x ∷ rows) zero held d within =
    ap (λ (all : Rows A). last_place all x.0) (sym (append-nil before))
links_after_at {A} before (x ∷ rows) (suc i) held d within =
    links_after_at (before ++ x ∷ []) rows i held d (omega (arith, within))
    ∙ ap (λ (all : Rows A). last_place all (get_or rows i d).0) (append_assoc before (x ∷ []) (take i rows))

pub link_at : {A : Type 0} (rows : Rows A) (i : ℕ) (held : Option ℕ) (d : List ℕ × A) → i < length rows
    → get_or (links_of rows) i held ≡ last_place (take i rows) (get_or rows i d).0
unfolding links_of
link_at rows i held d within = links_after_at [] rows i held d within

-- ---- what is looked up

-- the entry at what may be a place
abbrev pub entry_there : {A : Type 0} → ℕ → Rows A → Option ℕ → Option A
entry_there start rows None = None
entry_there start rows (Some place) = entry_at start rows place

-- what stands behind a place
head_there : {A : Type 0} (all : Rows A) (at : ℕ) (x : List ℕ × A) (rows : Rows A) → drop at all ≡ x ∷ rows
    → slice_get all at ≡ Some x
head_there [] zero x rows rest = absurd (cc)
head_there [] (suc at) x rows rest = absurd (cc)
head_there {A} (y ∷ all) zero x rows rest = ap (λ (xs : Rows A). slice_get xs 0) rest
head_there (y ∷ all) (suc at) x rows rest = head_there all at x rows rest

drop_one : {A : Type 0} (all : Rows A) (at : ℕ) → drop (suc at) all ≡ drop 1 (drop at all)
drop_one [] zero = refl
drop_one [] (suc at) = refl
drop_one (y ∷ all) zero = refl
drop_one (y ∷ all) (suc at) = drop_one all at

tail_there : {A : Type 0} (all : Rows A) (at : ℕ) (x : List ℕ × A) (rows : Rows A) → drop at all ≡ x ∷ rows
    → drop (at + 1) all ≡ rows
tail_there {A} all at x rows rest =
    let next : at + 1 ≡ suc at = omega arith in
    ap (λ n. drop n all) next ∙ drop_one all at ∙ ap (λ (xs : Rows A). drop 1 xs) rest

-- a place that counts, and one that doesn't
counts : {A : Type 0} (start at : ℕ) (all : Rows A) (x : List ℕ × A) → start ≤ at → slice_get all at ≡ Some x
    → entry_at start all at ≡ Some x.1
counts {A} start at all x far here = by_test (ltb at start) refl
  where
    by_test : (b : Bool) → ltb at start ≡ b
        → cond b None (option_map (λ (row : List ℕ × A). row.1) (slice_get all at)) ≡ Some x.1
    by_test true e = absurd (omega (arith, ltb-true at start e, far))
    by_test false e = ap (option_map (λ (row : List ℕ × A). row.1)) here

look : {A : Type 0} (start : ℕ) (all rows : Rows A) (at : ℕ) (place : Option ℕ) (name : List ℕ) → start ≤ at
    → drop at all ≡ rows
    → entry_after (entry_there start all place) rows name ≡ entry_there start all (place_after place at rows name)
look start all [] at place name far rest = refl
look {A} start all (x ∷ rows) at place name far rest =
    ap (λ (held : Option A). entry_after held rows name)
    (chosen (same x.0 name) (counts start at all x far (head_there all at x rows rest)))
    ∙ look start all rows (at + 1) (cond (same x.0 name) (Some at) place) name (omega (arith, far))
    (tail_there all at x rows rest)
  where
    chosen : (b : Bool) → entry_at start all at ≡ Some x.1
        → cond b (Some x.1) (entry_there start all place) ≡ entry_there start all (cond b (Some at) place)
    chosen true here = sym here
    chosen false here = refl

-- places before the one from which on they count
abbrev pub IsBefore : ℕ → Option ℕ → Type 0
IsBefore start None = Unit {0}
IsBefore start (Some place) = place < start

hides : {A : Type 0} (start : ℕ) (all : Rows A) (place : Option ℕ) → IsBefore start place
    → entry_there start all place ≡ None
hides start all None before = refl
hides {A} start all (Some place) before = by_test (ltb place start) refl
  where
    by_test : (b : Bool) → ltb place start ≡ b
        → cond b None (option_map (λ (row : List ℕ × A). row.1) (slice_get all place)) ≡ None
    by_test true e = refl
    by_test false e = absurd (omega (arith, ltb-false place start e, before))

-- the bindings before a place are gone through, and then those that count
look_past : {A : Type 0} (k start : ℕ) (all rows : Rows A) (at : ℕ) (place : Option ℕ) (name : List ℕ) → at + k ≡ start
    → IsBefore start place → drop at all ≡ rows
    → entry_after None (drop k rows) name ≡ entry_there start all (place_after place at rows name)
look_past {A} zero start all rows at place name e before rest =
    ap (λ (held : Option A). entry_after held rows name) (sym (hides start all place before))
    ∙ look start all rows at place name (omega (arith, e)) rest
look_past (suc k) start all [] at place name e before rest = sym (hides start all place before)
look_past (suc k) start all (x ∷ rows) at place name e before rest =
    look_past k start all rows (at + 1) (cond (same x.0 name) (Some at) place) name (omega (arith, e))
    (either (same x.0 name)) (tail_there all at x rows rest)
  where
    either : (b : Bool) → IsBefore start (cond b (Some at) place)
    either true = omega (arith, e)
    either false = before

-- what a name has from a place on is what stands at its last place, if that counts
pub looked_up : {A : Type 0} (start : ℕ) (rows : Rows A) (name : List ℕ)
    → last_entry (drop start rows) name ≡ entry_there start rows (last_place rows name)
unfolding last_entry last_place
looked_up start rows name = look_past start start rows rows 0 None name (omega arith) tt refl

-- ---- a table after a note

module _ {S : Type 0} (old new : PlaceTable S) (noted : List ℕ) (place : Option ℕ)
    (notes : Notes old new noted place) where
  -- what the table then has of a name
  noted_of : (name : List ℕ) (b : Bool) → same noted name ≡ b → knows old noted ≡ true
      → place_in new name ≡ cond b place (place_in old name)
  noted_of name true is there = ap (λ (o : Option (Option ℕ)). unwrap_or o None)
      (notes name ∙ ap (λ (t : Bool). cond (t && same noted name) (Some place) (get same old name)) there
      ∙ ap (λ (t : Bool). cond t (Some place) (get same old name)) is)
  noted_of name false is there = ap (λ (o : Option (Option ℕ)). unwrap_or o None)
      (notes name ∙ ap (λ (t : Bool). cond (t && same noted name) (Some place) (get same old name)) there
      ∙ ap (λ (t : Bool). cond t (Some place) (get same old name)) is)

there_is : (o : Option (Option ℕ)) (at : ℕ) → unwrap_or o None ≡ Some at → is_some o ≡ true
there_is None at is = absurd (cc)
there_is (Some place) at is = refl

-- the last binding is taken back
pub forgotten : {S A : Type 0} (old new : PlaceTable S) (before : Rows A) (row : List ℕ × A) (place : Option ℕ)
    → IsPlaced old (before ++ row ∷ []) → place ≡ last_place before row.0 → Notes old new row.0 place
    → IsPlaced new before
forgotten old new before row place placed link notes name =
    noted_of old new row.0 place notes name (same row.0 name) refl there ∙ by_same (same row.0 name) refl
  where
    there : knows old row.0 ≡ true
    there = there_is (get same old row.0) (length before)
        (placed row.0 ∙ last_more before row row.0
        ∙ ap (λ b. cond b (Some (length before)) (last_place before row.0)) (nat_list_eq_equiv.refl row.0))

    by_same : (b : Bool) → same row.0 name ≡ b → cond b place (place_in old name) ≡ last_place before name
    by_same true is = link ∙ ap (last_place before) (same_text row.0 name (sym is))
    by_same false is =
        placed name ∙ last_more before row name ∙ ap (λ b. cond b (Some (length before)) (last_place before name)) is

-- ---- tables of whole lists

-- of no binding
pub none_told : {S A : Type 0} (table : PlaceTable S) (rows : Rows A) (links : List (Option ℕ))
    → ((name : List ℕ) → get same table name ≡ None) → links ≡ [] → rows ≡ [] → IsTable table links rows
unfolding last_place links_of
none_told {S} {A} table rows links none no_link no_row = record {
  placed = λ name.
      ap (λ (o : Option (Option ℕ)). unwrap_or o None) (none name)
      ∙ ap (λ (xs : Rows A). place_after None 0 xs name) (sym no_row);
  linked = no_link ∙ ap (λ (xs : Rows A). links_after [] xs) (sym no_row);
}

-- one binding more
pub added : {S A : Type 0} (old new : PlaceTable S) (rows all : Rows A) (links more : List (Option ℕ))
    (name key : List ℕ)
    (entry : A) (place : Option ℕ) → IsTable old links rows → key ≡ name → place ≡ place_in old key
    → more ≡ links ++ place ∷ [] → all ≡ rows ++ (name, entry) ∷ [] → Puts old new key (length rows)
    → IsTable new more all
added {S} {A} old new rows all links more name key entry place told copied is longer grown puts = record {
  placed = λ n.
      puts n ∙ ap (λ x. cond (same x n) (Some (length rows)) (place_in old n)) copied
      ∙ ap (λ (o : Option ℕ). cond (same name n) (Some (length rows)) o) (told.placed n)
      ∙ sym (last_more rows (name, entry) n) ∙ ap (λ (xs : Rows A). last_place xs n) (sym grown);
  linked =
      longer ∙ ap (λ (at : Option ℕ). links ++ at ∷ []) (is ∙ told.placed key ∙ ap (last_place rows) copied)
      ∙ ap (λ (at : List (Option ℕ)). at ++ last_place rows name ∷ []) told.linked
      ∙ sym (links_more rows (name, entry)) ∙ ap (λ (xs : Rows A). links_of xs) (sym grown);
}

-- the first bindings
pub cut : {S A : Type 0} (new : PlaceTable S) (n : ℕ) (rows all : Rows A) (links more : List (Option ℕ))
    → links ≡ links_of rows → IsPlaced new (take n rows) → more ≡ take n links → all ≡ take n rows
    → IsTable new more all
cut {S} {A} new n rows all links more linked placed shorter fewer = record {
  placed = subst (λ (xs : Rows A). IsPlaced new xs) (sym fewer) placed;
  linked =
      shorter ∙ ap (λ (xs : List (Option ℕ)). take n xs) linked ∙ sym (take-links n rows)
      ∙ ap (λ (xs : Rows A). links_of xs) (sym fewer);
}
