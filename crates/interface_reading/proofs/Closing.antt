-- A node is whole: it stands nowhere yet, and is added and handed on, or nothing is read.
use Rattle.std.proofs.Common.{◌≡◌, ◌≢◌, ◌⊎◌, inl, inr, ℕ, suc, ◌-◌, ◌<◌, refl, sym, ap, subst, ◌∙◌, List, [], ◌∷◌, ◌++◌, length, get_or, set, Option, Some, None, false, arith}
use Rattle.std.specs.List.{AllPairs}
use Rattle.std.proofs.lemmas.List.{get_or-set_same, get_or-set_other, get_or_append_left}
use Rattle.std.proofs.lemmas.Bool.{cases_order}
use Rattle.std.proofs.lemmas.Option.{slice_get_within}
use Rattle.cm_bytes.specs.Fields.{◌>>=◌}
use Rattle.node_bytes.specs.Nodes.{Node, Begun, number_of}
use Rattle.node_bytes.specs.Reading.{if_new}
use Rattle.node_bytes.specs.Interfaces.{interfaces}
use Rattle.node_bytes.specs.Tables.{nowhere, content_of, row_node, nodes_after, table_nodes, table_node, AreRows}
use Rattle.node_bytes.specs.declared.table.Row.{Row}
use Rattle.node_bytes.proofs.Rows.{table_at}
use Rattle.node_tables.specs.Tables.{HasParts}
use Rattle.node_tables.proofs.Adding.{length_nodes, rows_kept}
use Rattle.node_tables.proofs.Apart.{rows_apart}
use Rattle.interface_reading.specs.Open.{Then}
use Rattle.interface_reading.specs.Meeting.{frame_at, rest_shape}
use Rattle.interface_reading.specs.Remaining.{finish, around, begun_of, left_with, left_of, HasNumber, AreOpen, AreSound, Holds, with_open, Moves, HandsOn, IsAdded, IsThere}
use Rattle.interface_reading.specs.declared.needs.Need.{Need}
use Rattle.interface_reading.specs.declared.open.Open.{Open}
use Rattle.interface_reading.specs.declared.reading.Reading.{Reading}
use Rattle.interface_reading.proofs.Moves.{going_complete}
use Rattle.interface_reading.proofs.Around.{around_snoc, around_grown, remaining_snoc, begun_grown, begun_set, node_begun, number_new, number_old}
use Rattle.interface_reading.proofs.Opens.{open_snoc, snoc_open, opens_set, parts_snoc, opens_snoc}
use Rattle.interface_reading.proofs.Moving.{with_part, handed, left_in, moved}

-- ---- a part is handed on

-- to none
pub handed_none : (place : ℕ) → HandsOn place [] []
handed_none place = record {
  less = refl;
  keeps = λ count numbers lt h. h;
  goes = λ made begun bytes e.
      let at : place ≡ length made - 1 = omega (arith, e) in
      ap (λ (n : ℕ). finish begun (get_or made n nowhere) bytes) at;
}

open_with_part : (count : ℕ) (numbers : List (Option ℕ)) (xs : List Open) (o : Open) (p : ℕ) → p < count
    → AreOpen count numbers (xs ++ o ∷ []) → AreOpen count numbers (xs ++ with_part o p ∷ [])
open_with_part count numbers xs o p lt h =
    let k = open_snoc count numbers xs o h in
    snoc_open count numbers xs (with_part o p) k.opens k.below (record {
      within = k.inner.within;
      free = k.inner.free;
      parts = parts_snoc count o.items p lt k.inner.parts;
    })

-- to the innermost one
handed_in : (place : ℕ) (xs : List Open) (o : Open) → HandsOn place (xs ++ o ∷ []) (xs ++ with_part o place ∷ [])
handed_in place xs o = record {
  less = let a = opens_snoc xs o in let b = opens_snoc xs (with_part o place) in omega (arith, a, b);
  keeps = λ count numbers lt h. open_with_part count numbers xs o place lt h;
  goes = λ made begun bytes e.
      ap (λ (done : Then). done begun (get_or made place nowhere) bytes) (around_snoc made finish xs o)
      ∙ handed made (around made finish xs) o place begun bytes
      ∙ sym (remaining_snoc made finish xs (with_part o place) begun bytes);
}

pub handed_some : (place : ℕ) (old new xs : List Open) (o outer : Open) → old ≡ xs ++ o ∷ []
    → outer ≡ with_part o place → new ≡ xs ++ outer ∷ [] → HandsOn place old new
handed_some place old new xs o outer e k l =
    subst (λ (z : List Open). HandsOn place z new) (sym e)
    (subst (λ (z : List Open). HandsOn place (xs ++ o ∷ []) z)
    (sym (l ∙ ap (λ (z : Open). xs ++ z ∷ []) k)) (handed_in place xs o))

-- ---- a node that stands already, or nowhere

abbrev node_with : List Row → Row → Node
node_with rows row = row_node (table_nodes rows) row

closes : (s : Reading) (o : Open) (bytes : List ℕ) → o.needs ≡ []
    → left_of (with_open s o) bytes
    ≡ (if_new (number_of (begun_of (table_nodes s.rows.keys) s.numbers.items)
    (Node.node o.tag (content_of (table_nodes s.rows.keys) o.items)))
    (Node.node o.tag (content_of (table_nodes s.rows.keys) o.items))
    >>= λ x. around (table_nodes s.rows.keys) finish s.opens
    (set (begun_of (table_nodes s.rows.keys) s.numbers.items) o.number (Some x)) x bytes)
closes s o bytes whole =
    let made = table_nodes s.rows.keys in
    left_in s o bytes
    ∙ going_complete interfaces (around made finish s.opens) (frame_at made o (rest_shape o))
    (begun_of made s.numbers.items) bytes
    (ap (λ (needs : List Need). rest_shape (record o { needs = needs })) whole)

abbrev row_of : Open → Row
row_of o = record { tag = o.tag; items = o.items }

pub stands_already : (s : Reading) (o : Open) (bytes : List ℕ) → Holds (with_open s o) → o.needs ≡ []
    → IsThere (row_of o) s.rows.keys → left_of (with_open s o) bytes ≡ None
stands_already s o bytes h whole there =
    let made = table_nodes s.rows.keys in
    let x = node_with s.rows.keys (row_of o) in
    let place = h.stands there.place (slice_get_within s.rows.keys there.place (row_of o) there.is) in
    closes s o bytes whole
    ∙ number_old (begun_of made s.numbers.items) x place.number
    (λ y. around made finish s.opens (set (begun_of made s.numbers.items) o.number (Some y)) y bytes)
    (node_begun made s.numbers.items place.number there.place place.is
    ∙ ap (λ (y : Node). Some y) (table_at s.rows.keys h.ordered there.place (row_of o) there.is))

-- ---- a node that is new

after_snoc : (made : List Node) (rows : List Row) (row : Row)
    → nodes_after made (rows ++ row ∷ []) ≡ nodes_after made rows ++ row_node (nodes_after made rows) row ∷ []
after_snoc made [] row = refl
after_snoc made (x ∷ xs) row = after_snoc (made ++ row_node made x ∷ []) xs row

pub nodes_snoc : (rows : List Row) (row : Row)
    → table_nodes (rows ++ row ∷ []) ≡ table_nodes rows ++ node_with rows row ∷ []
nodes_snoc rows row = after_snoc [] rows row

get_last : (made : List Node) (x : Node) (n : ℕ) → n ≡ length made → get_or (made ++ x ∷ []) n nowhere ≡ x
get_last [] x n e = ap (λ (i : ℕ). get_or (x ∷ []) i nowhere) e
get_last (y ∷ made) x n e =
    ap (λ (i : ℕ). get_or ((y ∷ made) ++ x ∷ []) i nowhere) e ∙ get_last made x (length made) refl

length_snoc : (rows : List Row) (row : Row) → length (rows ++ row ∷ []) ≡ suc (length rows)
length_snoc [] row = refl
length_snoc (x ∷ rows) row = ap suc (length_snoc rows row)

pub sound_rows : (rows : List Row) (row : Row) → AreRows rows → HasParts (length rows) row.items
    → AreRows (rows ++ row ∷ [])
sound_rows rows row h parts = rows_kept rows (rows ++ row ∷ []) row false h parts refl

new_apart : (rows : List Row) (row : Row) → AreRows rows → HasParts (length rows) row.items
    → AllPairs (λ x y. x ≢ y) (rows ++ row ∷ []) → (p : ℕ) → p < length rows
    → get_or (table_nodes rows) p nowhere ≢ node_with rows row
new_apart rows row h parts pairs p lt e =
    let apart = rows_apart (rows ++ row ∷ []) (sound_rows rows row h parts) pairs in
    let longer = length_snoc rows row in
    let at_p : table_node (rows ++ row ∷ []) p ≡ get_or (table_nodes rows) p nowhere =
    ap (λ (z : List Node). get_or z p nowhere) (nodes_snoc rows row)
    ∙ get_or_append_left (table_nodes rows) (node_with rows row ∷ []) nowhere p
    (subst (λ n. p < n) (sym (length_nodes rows)) lt) in
    let at_end : table_node (rows ++ row ∷ []) (length rows) ≡ node_with rows row =
    ap (λ (z : List Node). get_or z (length rows) nowhere) (nodes_snoc rows row)
    ∙ get_last (table_nodes rows) (node_with rows row) (length rows) (sym (length_nodes rows)) in
    let same = apart.apart p (length rows) (omega (arith, lt, longer)) (omega (arith, longer))
    (at_p ∙ e ∙ sym at_end) in
    omega (arith, same, lt)

-- what holds with it
abbrev set_in : List (Option ℕ) → Open → List Row → List (Option ℕ)
set_in numbers o rows = set numbers o.number (Some (length rows))

placed_more : (rows : List Row) (numbers : List (Option ℕ)) (o : Open) → o.number < length numbers
    → ((n p : ℕ) → get_or numbers n None ≡ Some p → p < length rows) → (n p : ℕ)
    → get_or (set_in numbers o rows) n None ≡ Some p → p < suc (length rows)
placed_more rows numbers o within h n p e = by (cases_order n o.number)
  where
    other : (n ≡ o.number → ⊥) → p < suc (length rows)
    other apart =
        let lt = h n p (sym (get_or-set_other numbers o.number n (Some (length rows)) None apart) ∙ e) in
        omega (arith, lt)

    by : (n ≡ o.number) ⊎ ((n < o.number) ⊎ (o.number < n)) → p < suc (length rows)
    by (inl same) =
        let some : Some (length rows) ≡ Some p =
        sym (get_or-set_same numbers o.number (Some (length rows)) None within)
        ∙ ap (λ (i : ℕ). get_or (set_in numbers o rows) i None) (sym same) ∙ e in
        let is : length rows ≡ p = cc in
        omega (arith, is)
    by (inr (inl lt)) = other (λ same. omega (arith, same, lt))
    by (inr (inr lt)) = other (λ same. omega (arith, same, lt))

stands_more : (rows : List Row) (numbers : List (Option ℕ)) (o : Open) → o.number < length numbers
    → get_or numbers o.number None ≡ None → ((p : ℕ) → p < length rows → HasNumber numbers p) → (p : ℕ)
    → p < suc (length rows) → HasNumber (set_in numbers o rows) p
stands_more rows numbers o within free h p lt = by (cases_order p (length rows))
  where
    old : HasNumber numbers p → HasNumber (set_in numbers o rows) p
    old k = record {
      number = k.number;
      is = get_or-set_other numbers o.number k.number (Some (length rows)) None
          (λ same. let none : None ≡ Some p = sym free
          ∙ ap (λ (i : ℕ). get_or numbers i None) (sym same) ∙ k.is in absurd (cc)) ∙ k.is;
    }

    by : (p ≡ length rows) ⊎ ((p < length rows) ⊎ (length rows < p)) → HasNumber (set_in numbers o rows) p
    by (inl same) = record {
      number = o.number;
      is = get_or-set_same numbers o.number (Some (length rows)) None within ∙ ap Some (sym same);
    }
    by (inr (inl less)) = old (h p less)
    by (inr (inr more)) = absurd (omega (arith, more, lt))

pub sound_more : (rows : List Row) (numbers : List (Option ℕ)) (xs : List Open) (o : Open)
    → AreSound rows numbers (xs ++ o ∷ []) → AreSound (rows ++ row_of o ∷ []) (set_in numbers o rows) xs
sound_more rows numbers xs o h =
    let k = open_snoc (length rows) numbers xs o h.nested in
    let longer = sym (length_snoc rows (row_of o)) in
    record {
      ordered = sound_rows rows (row_of o) h.ordered k.inner.parts;
      placed = λ n p e.
          subst (λ i. p < i) longer (placed_more rows numbers o k.inner.within h.placed n p e);
      stands = λ p lt.
          stands_more rows numbers o k.inner.within k.inner.free h.stands p
          (subst (λ i. p < i) (sym longer) lt);
      nested = subst (λ i. AreOpen i (set_in numbers o rows) xs) longer
          (opens_set (length rows) numbers o.number (length rows) xs k.opens k.below);
      some = let count = length_snoc rows (row_of o) in omega (arith, count);
    }

-- what is left with it
goes_more : (s : Reading) (o : Open) (bytes : List ℕ) → Holds (with_open s o) → o.needs ≡ []
    → AllPairs (λ x y. x ≢ y) (s.rows.keys ++ row_of o ∷ [])
    → left_of (with_open s o) bytes
    ≡ around (table_nodes (s.rows.keys ++ row_of o ∷ [])) finish s.opens
    (begun_of (table_nodes (s.rows.keys ++ row_of o ∷ [])) (set_in s.numbers.items o s.rows.keys))
    (get_or (table_nodes (s.rows.keys ++ row_of o ∷ [])) (length s.rows.keys) nowhere) bytes
goes_more s o bytes h whole pairs =
    let rows = s.rows.keys in
    let numbers = s.numbers.items in
    let made = table_nodes rows in
    let x = node_with rows (row_of o) in
    let begun = begun_of made numbers in
    let k = open_snoc (length rows) numbers s.opens o h.nested in
    let size = length_nodes rows in
    let new : number_of begun x ≡ None =
    number_new made numbers x (length rows) h.placed (new_apart rows (row_of o) h.ordered k.inner.parts pairs) in
    let opens = subst (λ n. AreOpen n numbers s.opens) (sym size) k.opens in
    let last : get_or (made ++ x ∷ []) (length rows) nowhere ≡ x = get_last made x (length rows) (sym size) in
    let begun_new : begun_of (made ++ x ∷ []) (set_in numbers o rows) ≡ set begun o.number (Some x) =
    begun_set (made ++ x ∷ []) numbers o.number (length rows)
    ∙ ap (λ (b : Begun). set b o.number (Some (get_or (made ++ x ∷ []) (length rows) nowhere)))
    (begun_grown made x numbers (λ n p e. subst (λ i. p < i) (sym size) (h.placed n p e)))
    ∙ ap (λ (y : Node). set begun o.number (Some y)) last in
    closes s o bytes whole
    ∙ ap (λ (i : Option ℕ). if_new i x >>= λ y. around made finish s.opens (set begun o.number (Some y)) y bytes) new
    ∙ ap (λ (done : Then). done (set begun o.number (Some x)) x bytes)
    (sym (around_grown made x finish numbers s.opens opens))
    ∙ ap (λ (b : Begun). around (made ++ x ∷ []) finish s.opens b x bytes) (sym begun_new)
    ∙ ap (λ (y : Node). around (made ++ x ∷ []) finish s.opens
    (begun_of (made ++ x ∷ []) (set_in numbers o rows)) y bytes) (sym last)
    ∙ ap (λ (z : List Node). around z finish s.opens (begun_of z (set_in numbers o rows))
    (get_or z (length rows) nowhere) bytes) (sym (nodes_snoc rows (row_of o)))

length_made : (rows : List Row) (row : Row) → length (table_nodes (rows ++ row ∷ [])) ≡ suc (length rows)
length_made rows row = length_nodes (rows ++ row ∷ []) ∙ length_snoc rows row

-- all of it
pub node_closed : (s new : Reading) (o : Open) (place : ℕ) (bytes : List ℕ) → Holds (with_open s o) → o.needs ≡ []
    → IsAdded (row_of o) s.rows.keys new.rows.keys place → new.numbers.items ≡ set s.numbers.items o.number (Some place)
    → HandsOn place s.opens new.opens → Moves (with_open s o) new bytes bytes
node_closed s new o place bytes h whole added numbers handed =
    let rows = s.rows.keys in
    let is : new.numbers.items ≡ set_in s.numbers.items o rows =
    numbers ∙ ap (λ (p : ℕ). set s.numbers.items o.number (Some p)) added.at in
    let pairs = subst (λ (z : List Row). AllPairs (λ x y. x ≢ y) z) added.rows added.apart in
    let sound = sound_more rows s.numbers.items s.opens o h in
    let count = length_snoc rows (row_of o) in
    let at = added.at in
    let inner = handed.keeps (length (rows ++ row_of o ∷ [])) (set_in s.numbers.items o rows) (omega (arith, at, count))
    sound.nested in
    let made = table_nodes (rows ++ row_of o ∷ []) in
    let goes : left_of (with_open s o) bytes
    ≡ left_with (rows ++ row_of o ∷ []) (set_in s.numbers.items o rows) new.opens bytes =
    goes_more s o bytes h whole pairs
    ∙ ap (λ (p : ℕ). around made finish s.opens (begun_of made (set_in s.numbers.items o rows))
    (get_or made p nowhere) bytes) (sym at)
    ∙ handed.goes made (begun_of made (set_in s.numbers.items o rows)) bytes
    (length_made rows (row_of o) ∙ ap suc (sym at)) in
    let less = handed.less in
    let top = opens_snoc s.opens o in
    record {
      holds = moved (λ r n z. AreSound r n z) (rows ++ row_of o ∷ []) (set_in s.numbers.items o rows) new.opens new
          added.rows is refl
          (record { ordered = sound.ordered; placed = sound.placed; stands = sound.stands; nested = inner; some = omega (arith, count) });
      goes = moved (λ r n z. left_of (with_open s o) bytes ≡ left_with r n z bytes) (rows ++ row_of o ∷ [])
          (set_in s.numbers.items o rows) new.opens new added.rows is refl goes;
      less = omega (arith, less, top);
    }
