-- Values of a graph by the rows of their schemes.
use Rattle.std.proofs.Common.{◌≡◌, ◌≢◌, ℕ, zero, suc, ◌+◌, ◌<◌, refl, sym, ap, subst, ◌∙◌, arith, List, [], ◌∷◌, ◌++◌, length, take, get_or, slice_get, Option, Some, None, Bool, true, false, cond, nat_eq}
use Rattle.std.proofs.lemmas.Bool.{eqb-true}
use Rattle.std.proofs.lemmas.List.{take_more}
use Rattle.semantic_objects.specs.declared.entry.VidStatus.{VidStatus}
use Rattle.semantic_objects.specs.declared.entry.VidStatus.TheVariants as status
use Rattle.semantic_objects.specs.Symbols.{AreRising}
use Rattle.semantic_objects.specs.Tables.{Table, with_entry, names_of}
use Rattle.interface_format.specs.Rules.{AreNames}
use Rattle.semantic_objects.specs.Trees.{TypeScheme}
use Rattle.interface_nodes.specs.declared.fields.ValuePlace.{ValuePlace}
use Rattle.environment_walks.specs.Changing.{image_in}
use Rattle.environment_walks.proofs.Ordering.{IsAfter, rising_after, set_last}
use Rattle.sml_modules.specs.Items.{Item, IsValue}
use Rattle.sml_modules.specs.Graphs.{Graph}
use Rattle.sml_modules.specs.Adding.{Extends}
use Rattle.sml_modules.proofs.Unfolding.{at_more}
use Rattle.row_entries.specs.declared.rows.EntryRows.{EntryRows}
use Rattle.row_entries.specs.Told.{ToldAt}
use Rattle.row_environments.specs.declared.values.ValuePlaces.{ValuePlaces}
use Rattle.row_environments.specs.Placed.{images_for, HasValue, AreValues, SetsValue}
use Rattle.row_environments.specs.Answers.{ValuesPlaced, PlacesValue, PlacesValues, LacksPlace, value_places_in, value_names_of}

-- ---- values stay where they are

value_stays : (schemes : List (Option TypeScheme)) (items more : List Item) (s : VidStatus) (row p : ℕ)
    → HasValue schemes items s row p → HasValue schemes (items ++ more) s row p
value_stays schemes items more s row p h = record {
  scheme = h.scheme;
  told = h.told;
  is = at_more IsValue (λ k. k) items more p (subst IsValue (sym h.is) tt) ∙ h.is;
}

pub value_kept : (schemes : List (Option TypeScheme)) (old new : Graph) (s : VidStatus) (row p : ℕ) → Extends old new
    → HasValue schemes old.items s row p → HasValue schemes new.items s row p
value_kept schemes old new s row p e h =
    subst (λ (z : List Item). HasValue schemes z s row p) (sym e.items) (value_stays schemes old.items e.more s row p h)

pub values_kept : (schemes : List (Option TypeScheme)) (old new : Graph) (places : ValuePlaces) → Extends old new
    → AreValues schemes old.items places → AreValues schemes new.items places
values_kept schemes old new places e h = record {
  each = λ s row p i. value_kept schemes old new s row p e (h.each s row p i);
}

status_split : {P : Type 0} (r s : VidStatus) → (r ≡ s → P) → (r ≢ s → P) → P
status_split status.Variable status.Variable f g = f refl
status_split status.Variable status.Constructor f g = g (λ e. cc)
status_split status.Variable status.Exception f g = g (λ e. cc)
status_split status.Constructor status.Variable f g = g (λ e. cc)
status_split status.Constructor status.Constructor f g = f refl
status_split status.Constructor status.Exception f g = g (λ e. cc)
status_split status.Exception status.Variable f g = g (λ e. cc)
status_split status.Exception status.Constructor f g = g (λ e. cc)
status_split status.Exception status.Exception f g = f refl

some_is : (p q : ℕ) → Some p ≡ Some q → p ≡ q
some_is p q e = cc

pub value_set : (schemes : List (Option TypeScheme)) (items : List Item) (old new : ValuePlaces) (s : VidStatus)
    (row p : ℕ) → AreValues schemes items old → SetsValue old new s row p → HasValue schemes items s row p
    → AreValues schemes items new
value_set schemes items old new s row p h k v = record { each = at_status }
  where
    at_row : (q x : ℕ) (b : Bool) → nat_eq row q ≡ b
        → cond b (Some p) (image_in (images_for old s) q) ≡ Some x → HasValue schemes items s q x
    at_row q x true e i =
        subst (λ z. HasValue schemes items s z x) (eqb-true row q e)
        (subst (HasValue schemes items s row) (some_is p x i) v)
    at_row q x false e i = h.each s q x i

    at_status : (r : VidStatus) (q x : ℕ) → image_in (images_for new r) q ≡ Some x → HasValue schemes items r q x
    at_status r q x i = status_split r s
        (λ e. subst (λ z. HasValue schemes items z q x) (sym e)
        (at_row q x (nat_eq row q) refl
        (sym (k.there q) ∙ subst (λ z. image_in (images_for new z) q ≡ Some x) e i)))
        (λ a. h.each r q x (ap (λ z. image_in z q) (sym (k.others r a)) ∙ i))

-- ---- values one after the other

values_push : (entries : EntryRows) (items : List Item) (table : List ValuePlace) (rows : Table ℕ) (row : ValuePlace)
    (name : List ℕ) (p : ℕ) → ValuesPlaced entries items table rows → row.name ≡ name
    → HasValue entries.schemes items row.status row.place p
    → ValuesPlaced entries items (table ++ row ∷ []) (rows ++ (name, p) ∷ [])
values_push entries items [] [] row name p h n k = (n, k, tt)
values_push entries items [] (x ∷ rows) row name p h n k = absurd h
values_push entries items (r ∷ table) [] row name p h n k = absurd h
values_push entries items (r ∷ table) (x ∷ rows) row name p h n k =
    (h.0, h.1, values_push entries items table rows row name p h.2 n k)

pub rows_kept : (entries : EntryRows) (old new : Graph) (table : List ValuePlace) (rows : Table ℕ) → Extends old new
    → ValuesPlaced entries old.items table rows → ValuesPlaced entries new.items table rows
rows_kept entries old new [] [] e h = tt
rows_kept entries old new [] (x ∷ rows) e h = h
rows_kept entries old new (r ∷ table) [] e h = h
rows_kept entries old new (r ∷ table) (x ∷ rows) e h =
    (h.0, value_kept entries.schemes old new r.status r.place x.1 e h.1, rows_kept entries old new table rows e h.2)

same_names : (m n : List ℕ) (ms ns : List (List ℕ)) → m ≡ n → ms ≡ ns → m ∷ ms ≡ n ∷ ns
same_names m n ms ns e f = cc

pub values_names : (entries : EntryRows) (items : List Item) (table : List ValuePlace) (rows : Table ℕ)
    → ValuesPlaced entries items table rows → names_of rows ≡ value_names_of table
values_names entries items [] [] h = refl
values_names entries items [] (x ∷ rows) h = absurd h
values_names entries items (r ∷ table) [] h = absurd h
values_names entries items (r ∷ table) (x ∷ rows) h =
    same_names x.0 r.name (names_of rows) (value_names_of table) (sym h.0) (values_names entries items table rows h.2)

names_taken : (i : ℕ) (table : List ValuePlace) → value_names_of (take i table) ≡ take i (value_names_of table)
names_taken zero [] = refl
names_taken zero (row ∷ table) = refl
names_taken (suc i) [] = refl
names_taken (suc i) (row ∷ table) = ap (λ z. row.name ∷ z) (names_taken i table)

name_at : (table : List ValuePlace) (i : ℕ) (row d : ValuePlace) → row ≡ get_or table i d → i < length table
    → slice_get (value_names_of table) i ≡ Some row.name
name_at [] i row d e lt = absurd (omega (arith, lt))
name_at (r ∷ table) zero row d e lt = ap (λ (z : ValuePlace). Some z.name) (sym e)
name_at (r ∷ table) (suc i) row d e lt = name_at table i row d e (omega (arith, lt))

-- one value more is set
pub value_more : (entries : EntryRows) (old new : Graph) (table : List ValuePlace) (i : ℕ) (row d : ValuePlace)
    (name : List ℕ) (p : ℕ) (rows set : Table ℕ) → AreRising (value_names_of table) → row ≡ get_or table i d
    → i < length table → Extends old new → ValuesPlaced entries old.items (take i table) rows → name ≡ row.name
    → HasValue entries.schemes new.items row.status row.place p → set ≡ with_entry name p rows
    → ValuesPlaced entries new.items (take (i + 1) table) set
value_more entries old new table i row d name p rows set rising e lt x h n k s =
    subst (ValuesPlaced entries new.items (take (i + 1) table)) (sym (s ∙ last))
    (subst (λ (z : List ValuePlace). ValuesPlaced entries new.items z (rows ++ (name, p) ∷ [])) (sym more)
    (values_push entries new.items (take i table) rows row name p (rows_kept entries old new (take i table) rows x h)
    (sym n) k))
  where
    more : take (i + 1) table ≡ take i table ++ row ∷ []
    more = take_more table i d lt ∙ ap (λ (z : ValuePlace). take i table ++ z ∷ []) (sym e)

    after : IsAfter name (names_of rows)
    after = subst (λ z. IsAfter z (names_of rows)) (sym n)
        (subst (IsAfter row.name) (sym (values_names entries old.items (take i table) rows h ∙ names_taken i table))
        (rising_after (value_names_of table) row.name i rising (name_at table i row d e lt)))

    last : with_entry name p rows ≡ rows ++ (name, p) ∷ []
    last = set_last name p rows after

-- ---- a value that has no scheme

place_is : (table : List ValuePlace) (i : ℕ) (row d : ValuePlace) → row ≡ get_or table i d → i < length table
    → get_or (value_places_in table) i 0 ≡ row.place
place_is [] i row d e lt = absurd (omega (arith, lt))
place_is (r ∷ table) zero row d e lt = ap (λ (z : ValuePlace). z.place) (sym e)
place_is (r ∷ table) (suc i) row d e lt = place_is table i row d e (omega (arith, lt))

places_counted : (table : List ValuePlace) → length (value_places_in table) ≡ length table
places_counted [] = refl
places_counted (row ∷ table) = ap suc (places_counted table)

pub value_none : (entries : EntryRows) (items : List Item) (table : List ValuePlace) (i : ℕ) (row d : ValuePlace)
    (found : Option ℕ) → row ≡ get_or table i d → i < length table → PlacesValue entries items row found
    → found ≡ None → PlacesValues entries items table None
value_none entries items table i row d found e lt h f = record {
  at = i;
  within = (let n = places_counted table in omega (arith, n, lt));
  none = subst (λ z. ToldAt entries.schemes z None) (sym (place_is table i row d e lt))
      (subst (PlacesValue entries items row) f h);
}

-- no value has a place
pub values_none : (schemes : List (Option TypeScheme)) (items : List Item) (places : ValuePlaces)
    → ((s : VidStatus) (p : ℕ) → image_in (images_for places s) p ≡ None) → AreValues schemes items places
values_none schemes items places h = record { each = λ s row p i. absurd (nothing p (sym (h s row) ∙ i)) }
  where
    nothing : (p : ℕ) → None ≡ Some p → ⊥
    nothing p e = cc

-- ---- answers of calls

pub values_none_placed : (entries : EntryRows) (items : List Item) (slice table : List ValuePlace)
    (found : Option (Table ℕ)) → PlacesValues entries items slice found → slice ≡ table
    → ((rows : Table ℕ) → found ≡ Some rows → ⊥) → LacksPlace entries.schemes (value_places_in table)
values_none_placed entries items slice table (Some rows) h e never = absurd (never rows refl)
values_none_placed entries items slice table None h e never =
    subst (λ (z : List ValuePlace). LacksPlace entries.schemes (value_places_in z)) e h

pub values_some_placed : (entries : EntryRows) (items : List Item) (slice table : List ValuePlace)
    (found : Option (Table ℕ)) (rows : Table ℕ) → PlacesValues entries items slice found → slice ≡ table
    → found ≡ Some rows → ValuesPlaced entries items table rows
values_some_placed entries items slice table found rows h e f =
    subst (λ (z : List ValuePlace). ValuesPlaced entries items z rows) e (subst (PlacesValues entries items slice) f h)

pub rising_values : (slice table : List ValuePlace) → slice ≡ table → AreNames (value_names_of table)
    → AreRising (value_names_of slice)
rising_values slice table e h = subst (λ (z : List ValuePlace). AreRising (value_names_of z)) (sym e) h.rising
