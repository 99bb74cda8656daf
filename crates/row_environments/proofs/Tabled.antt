-- Rows that are set in rising order of names.
use Rattle.std.proofs.Common.{◌≡◌, ℕ, zero, suc, ◌+◌, ◌<◌, refl, sym, ap, subst, ◌∙◌, arith, List, [], ◌∷◌, ◌++◌, length, map, take, get_or, slice_get, Option, Some, None}
use Rattle.std.proofs.lemmas.List.{take_more}
use Rattle.semantic_objects.specs.Symbols.{AreRising}
use Rattle.semantic_objects.specs.Tables.{Table, with_entry, names_of}
use Rattle.interface_format.specs.Rules.{AreNames}
use Rattle.interface_nodes.specs.declared.fields.NamedPlace.{NamedPlace}
use Rattle.environment_walks.proofs.Ordering.{IsAfter, rising_after, set_last}
use Rattle.row_types.specs.Told.{name_of}
use Rattle.row_entries.specs.Told.{ToldAt}
use Rattle.row_environments.specs.Answers.{RowsPlaced, PlacesRows, LacksPlace, places_in}

-- ---- rows one after the other

placed_push : (told : List (Option ℕ)) (table : List NamedPlace) (rows : Table ℕ) (row : NamedPlace) (name : List ℕ) (p : ℕ)
    → RowsPlaced told table rows → row.name ≡ name → ToldAt told row.place (Some p)
    → RowsPlaced told (table ++ row ∷ []) (rows ++ (name, p) ∷ [])
placed_push told [] [] row name p h n k = (n, k, tt)
placed_push told [] (x ∷ rows) row name p h n k = absurd h
placed_push told (r ∷ table) [] row name p h n k = absurd h
placed_push told (r ∷ table) (x ∷ rows) row name p h n k = (h.0, h.1, placed_push told table rows row name p h.2 n k)

pub placed_names : (told : List (Option ℕ)) (table : List NamedPlace) (rows : Table ℕ) → RowsPlaced told table rows
    → names_of rows ≡ map name_of table
placed_names told [] [] h = refl
placed_names told [] (x ∷ rows) h = absurd h
placed_names told (r ∷ table) [] h = absurd h
placed_names told (r ∷ table) (x ∷ rows) h = cons_same x.0 r.name (names_of rows) (map name_of table) (sym h.0)
    (placed_names told table rows h.2)
  where
    cons_same : (m n : List ℕ) (ms ns : List (List ℕ)) → m ≡ n → ms ≡ ns → m ∷ ms ≡ n ∷ ns
    cons_same m n ms ns e f = cc

map_taken : (i : ℕ) (table : List NamedPlace) → map name_of (take i table) ≡ take i (map name_of table)
map_taken zero [] = refl
map_taken zero (row ∷ table) = refl
map_taken (suc i) [] = refl
map_taken (suc i) (row ∷ table) = ap (λ z. row.name ∷ z) (map_taken i table)

name_at : (table : List NamedPlace) (i : ℕ) (row d : NamedPlace) → row ≡ get_or table i d → i < length table
    → slice_get (map name_of table) i ≡ Some row.name
name_at [] i row d e lt = absurd (omega (arith, lt))
name_at (r ∷ table) zero row d e lt = ap (λ (z : NamedPlace). Some z.name) (sym e)
name_at (r ∷ table) (suc i) row d e lt = name_at table i row d e (omega (arith, lt))

-- one row more is set
pub placed_more : (told : List (Option ℕ)) (table : List NamedPlace) (i : ℕ) (row d : NamedPlace) (name : List ℕ) (p : ℕ)
    (found : Option ℕ) (rows set : Table ℕ) → AreRising (map name_of table) → row ≡ get_or table i d → i < length table
    → RowsPlaced told (take i table) rows → name ≡ row.name → ToldAt told row.place found → found ≡ Some p
    → set ≡ with_entry name p rows → RowsPlaced told (take (i + 1) table) set
placed_more told table i row d name p found rows set rising e lt h n k f s =
    subst (RowsPlaced told (take (i + 1) table)) (sym (s ∙ last))
    (subst (λ (z : List NamedPlace). RowsPlaced told z (rows ++ (name, p) ∷ [])) (sym more)
    (placed_push told (take i table) rows row name p h (sym n) (subst (ToldAt told row.place) f k)))
  where
    more : take (i + 1) table ≡ take i table ++ row ∷ []
    more = take_more table i d lt ∙ ap (λ (z : NamedPlace). take i table ++ z ∷ []) (sym e)

    after : IsAfter name (names_of rows)
    after = subst (λ z. IsAfter z (names_of rows)) (sym n)
        (subst (IsAfter row.name) (sym (placed_names told (take i table) rows h ∙ map_taken i table))
        (rising_after (map name_of table) row.name i rising (name_at table i row d e lt)))

    last : with_entry name p rows ≡ rows ++ (name, p) ∷ []
    last = set_last name p rows after

place_is : (table : List NamedPlace) (i : ℕ) (row d : NamedPlace) → row ≡ get_or table i d → i < length table
    → get_or (places_in table) i 0 ≡ row.place
place_is [] i row d e lt = absurd (omega (arith, lt))
place_is (r ∷ table) zero row d e lt = ap (λ (z : NamedPlace). z.place) (sym e)
place_is (r ∷ table) (suc i) row d e lt = place_is table i row d e (omega (arith, lt))

places_counted : (table : List NamedPlace) → length (places_in table) ≡ length table
places_counted [] = refl
places_counted (row ∷ table) = ap suc (places_counted table)

-- a row has no place
pub placed_none : (told : List (Option ℕ)) (table : List NamedPlace) (i : ℕ) (row d : NamedPlace) (found : Option ℕ)
    → row ≡ get_or table i d → i < length table → ToldAt told row.place found → found ≡ None
    → PlacesRows told table None
placed_none told table i row d found e lt k f = record {
  at = i;
  within = (let n = places_counted table in omega (arith, n, lt));
  none = subst (λ z. ToldAt told z None) (sym (place_is table i row d e lt)) (subst (ToldAt told row.place) f k);
}

pub placed_all : (told : List (Option ℕ)) (table front : List NamedPlace) (rows : Table ℕ) → front ≡ table
    → RowsPlaced told front rows → PlacesRows told table (Some rows)
placed_all told table front rows e h = subst (λ (z : List NamedPlace). RowsPlaced told z rows) e h

-- ---- answers of calls

-- a row of a table has no place, where none are given
pub rows_none : (told : List (Option ℕ)) (slice table : List NamedPlace) (found : Option (Table ℕ))
    → PlacesRows told slice found → slice ≡ table → ((rows : Table ℕ) → found ≡ Some rows → ⊥)
    → LacksPlace told (places_in table)
rows_none told slice table (Some rows) h e never = absurd (never rows refl)
rows_none told slice table None h e never = subst (λ (z : List NamedPlace). LacksPlace told (places_in z)) e h

pub rows_some : (told : List (Option ℕ)) (slice table : List NamedPlace) (found : Option (Table ℕ)) (rows : Table ℕ)
    → PlacesRows told slice found → slice ≡ table → found ≡ Some rows → RowsPlaced told table rows
rows_some told slice table found rows h e f =
    subst (λ (z : List NamedPlace). RowsPlaced told z rows) e (subst (PlacesRows told slice) f h)

pub rising_names : (slice table : List NamedPlace) → slice ≡ table → AreNames (map name_of table)
    → AreRising (map name_of slice)
rising_names slice table e h = subst (λ (z : List NamedPlace). AreRising (map name_of z)) (sym e) h.rising
