-- Each step of writing keeps what is written and what is left, and leaves less.
use Rattle.std.proofs.Common.{◌≡◌, ℕ, zero, suc, ◌+◌, ◌<◌, ◌≤◌, refl, sym, ap, subst, ◌∙◌, List, [], ◌∷◌, ◌++◌, length, get_or, set, drop, replicate, Option, Some, None, append_assoc, arith}
use Rattle.std.specs.Prelude.{slice_get, Result, Ok, Err, IsErrAnd}
use Rattle.std.proofs.lemmas.List.{append-nil, length-append, length-set, length-replicate, get_or-set_same}
use Rattle.cm_bytes.specs.Fields.{u32_of}
use Rattle.cm_bytes.proofs.Fields.{some_is}
use Rattle.node_bytes.specs.Nodes.{Node, Content, Begun, number_of}
use Rattle.node_bytes.specs.Formats.{Format, Shape}
use Rattle.node_bytes.specs.Spelling.{spelled, spelled_content, spelling}
use Rattle.node_bytes.specs.Tables.{content_of, table_nodes, table_node, AreRows, AreApart, Writes}
use Rattle.node_bytes.specs.Writing.{Effect, IsDone, Done, HasRoom, on, tag_at, items_at, visited_by, stepped, stepped_by}
use Rattle.node_bytes.specs.Going.{close, rest_of, run, IsOpen, Known, AreOpen, AllAbove, IsGoing, Goes, IsBegun, Begins, weigh, weigh_in, weights}
use Rattle.node_bytes.specs.declared.table.Item.{Item}
use Rattle.node_bytes.specs.declared.table.Item.TheVariants as item
use Rattle.node_bytes.specs.declared.table.Row.{Row}
use Rattle.node_bytes.specs.declared.write.Open.{Open}
use Rattle.node_bytes.specs.declared.write.Writing.{Writing}
use Rattle.node_bytes.specs.declared.fault.WriteFault.{WriteFault}
use Rattle.node_bytes.specs.declared.fault.WriteFault.TheVariants as fault
use Rattle.node_bytes.proofs.Rows.{table_at}
use Rattle.node_bytes.proofs.Runs.{left_of, run_left, left_nothing, left_piece, left_known, left_new}
use Rattle.node_bytes.proofs.Going.{nested_snoc, snoc_nested, placed_snoc, snoc_placed, placed_set, above_not_open, above_lower, above_snoc, number_unknown, number_known, known_on, known_close, known_open}

-- ---- what is left of a node

drop_item : (items : List Item) (i : ℕ) (it : Item) → slice_get items i ≡ Some it
    → drop i items ≡ it ∷ drop (suc i) items
drop_item [] i it e = absurd (cc)
drop_item (x ∷ xs) zero it e = ap (λ (z : Item). z ∷ xs) (some_is x it e)
drop_item (x ∷ xs) (suc i) it e = drop_item xs i it e

drop_none : (items : List Item) (i : ℕ) → slice_get items i ≡ None → drop i items ≡ []
drop_none [] zero e = refl
drop_none [] (suc i) e = refl
drop_none (x ∷ xs) zero e = absurd (cc)
drop_none (x ∷ xs) (suc i) e = drop_none xs i e

rest_none : (rows : List Row) (top : Open) → slice_get (items_at (slice_get rows top.id)) top.at ≡ None
    → rest_of rows top ≡ Content.nothing
rest_none rows top e =
    ap (content_of (table_nodes rows)) (drop_none (items_at (slice_get rows top.id)) top.at e)

rest_some : (rows : List Row) (top : Open) (it : Item) → slice_get (items_at (slice_get rows top.id)) top.at ≡ Some it
    → rest_of rows top ≡ content_of (table_nodes rows) (it ∷ drop (top.at + 1) (items_at (slice_get rows top.id)))
rest_some rows top it e =
    ap (content_of (table_nodes rows)) (drop_item (items_at (slice_get rows top.id)) top.at it e)
    ∙ ap (λ (n : ℕ). content_of (table_nodes rows) (it ∷ drop n (items_at (slice_get rows top.id))))
    (let next : suc top.at ≡ top.at + 1 = omega arith in next)

-- ---- steps

-- the innermost node is whole
pub going_none : (f : Format) (rows : List Row) (root : ℕ) (out : List ℕ) (numbers : List (Option ℕ)) (next : ℕ)
    (xs : List Open) (top : Open) → slice_get (items_at (slice_get rows top.id)) top.at ≡ None
    → IsGoing f rows root out numbers next (xs ++ top ∷ []) → IsGoing f rows root out numbers next xs
going_none f rows root out numbers next xs top e h =
    let placed = placed_snoc (length rows) numbers xs top h.placed in
    record {
      begun = close h.begun top.number (table_node rows top.id);
      bytes =
          ap (λ (b : List ℕ). out ++ b)
          (sym (left_nothing f rows xs h.begun top.number (table_node rows top.id))
          ∙ ap (λ (c : Content). left_of f rows xs h.begun c top.number (table_node rows top.id))
          (sym (rest_none rows top e))
          ∙ sym (run_left f rows h.begun xs top))
          ∙ h.bytes;
      known = known_close rows h.begun numbers xs top next h.known placed.1 placed.2;
      placed = placed.0;
      nested = (nested_snoc xs top h.nested).0;
    }

-- bytes of it are written
going_bytes : (f : Format) (rows : List Row) (out bytes : List ℕ) (begun after : Begun)
    (xs opens : List Open) (top : Open) (spelled : List ℕ)
    → left_of f rows xs begun (rest_of rows top) top.number (table_node rows top.id)
    ≡ bytes ++ (run f rows after opens).bytes
    → out ++ (run f rows begun (xs ++ top ∷ [])).bytes ≡ spelled
    → (out ++ bytes) ++ (run f rows after opens).bytes ≡ spelled
going_bytes f rows out bytes begun after xs opens top spelled left e =
    append_assoc out bytes (run f rows after opens).bytes
    ∙ ap (λ (b : List ℕ). out ++ b) (sym left ∙ sym (run_left f rows begun xs top))
    ∙ e

pub going_piece : (f : Format) (rows : List Row) (root : ℕ) (out : List ℕ) (numbers : List (Option ℕ)) (next : ℕ)
    (xs : List Open) (top : Open) (text : List ℕ)
    → slice_get (items_at (slice_get rows top.id)) top.at ≡ Some (item.Piece text)
    → IsGoing f rows root out numbers next (xs ++ top ∷ [])
    → IsGoing f rows root (out ++ text) numbers next (xs ++ on top ∷ [])
going_piece f rows root out numbers next xs top text e h =
    let placed = placed_snoc (length rows) numbers xs top h.placed in
    let nested = nested_snoc xs top h.nested in
    record {
      begun = h.begun;
      bytes = going_bytes f rows out text h.begun h.begun xs (xs ++ on top ∷ []) top (spelling f (table_node rows root))
          (ap (λ (c : Content). left_of f rows xs h.begun c top.number (table_node rows top.id))
          (rest_some rows top (item.Piece text) e)
          ∙ left_piece f rows xs h.begun text (rest_of rows (on top)) top.number (table_node rows top.id)
          ∙ ap (λ (b : List ℕ). text ++ b) (sym (run_left f rows h.begun xs (on top))))
          h.bytes;
      known = known_on rows h.begun numbers xs top next h.known;
      placed = snoc_placed (length rows) numbers xs (on top) placed.0 placed.1 placed.2;
      nested = snoc_nested xs (on top) nested.0 nested.1;
    }

-- a part that has a number
pub going_known : (f : Format) (rows : List Row) (root : ℕ) (out : List ℕ) (numbers : List (Option ℕ)) (next : ℕ)
    (xs : List Open) (top : Open) (p m : ℕ) → AreApart rows
    → slice_get (items_at (slice_get rows top.id)) top.at ≡ Some (item.Part p) → p < top.id
    → get_or numbers p None ≡ Some m
    → IsGoing f rows root out numbers next (xs ++ top ∷ [])
    → IsGoing f rows root (out ++ (f.back ∷ u32_of m)) numbers next (xs ++ on top ∷ [])
going_known f rows root out numbers next xs top p m apart e lt number h =
    let placed = placed_snoc (length rows) numbers xs top h.placed in
    let nested = nested_snoc xs top h.nested in
    let within : p < length rows = (let top_lt = placed.1 in omega (arith, lt, top_lt)) in
    let shut : IsOpen (xs ++ top ∷ []) p → ⊥ =
    above_not_open p (xs ++ top ∷ []) (above_snoc p xs top (above_lower p top.id xs lt nested.1) lt) in
    let has = number_known rows h.begun numbers (xs ++ top ∷ []) next p m apart h.known within number shut in
    record {
      begun = h.begun;
      bytes = going_bytes f rows out (f.back ∷ u32_of m) h.begun h.begun xs (xs ++ on top ∷ []) top
          (spelling f (table_node rows root))
          (ap (λ (c : Content). left_of f rows xs h.begun c top.number (table_node rows top.id))
          (rest_some rows top (item.Part p) e)
          ∙ left_known f rows xs h.begun (table_node rows p) (rest_of rows (on top)) top.number
          (table_node rows top.id) m has
          ∙ ap (λ (b : List ℕ). (f.back ∷ u32_of m) ++ b) (sym (run_left f rows h.begun xs (on top))))
          h.bytes;
      known = known_on rows h.begun numbers xs top next h.known;
      placed = snoc_placed (length rows) numbers xs (on top) placed.0 placed.1 placed.2;
      nested = snoc_nested xs (on top) nested.0 nested.1;
    }

-- ---- a part that has no number yet

some_at : {A : Type 0} (xs : List A) (p : ℕ) → p < length xs → (x : A) × (slice_get xs p ≡ Some x)
some_at [] p lt = absurd (omega (arith, lt))
some_at (x ∷ xs) zero lt = (x, refl)
some_at (x ∷ xs) (suc p) lt = some_at xs p (omega (arith, lt))

drop_zero : (items : List Item) → drop 0 items ≡ items
drop_zero [] = refl
drop_zero (x ∷ xs) = refl

-- it is opened
abbrev opened_at : ℕ → ℕ → Open
opened_at p next = record { id = p; number = next; at = 0 }

rest_opened : (rows : List Row) (p next : ℕ) (row : Row) → slice_get rows p ≡ Some row
    → rest_of rows (opened_at p next) ≡ content_of (table_nodes rows) row.items
rest_opened rows p next row e =
    ap (content_of (table_nodes rows)) (drop_zero (items_at (slice_get rows p))
    ∙ ap (λ (r : Option Row). items_at r) e)

left_opened : (f : Format) (rows : List Row) (xs : List Open) (begun : Begun) (top : Open) (p next : ℕ) (row : Row)
    → AreRows rows → slice_get rows p ≡ Some row → next ≡ length begun
    → slice_get (items_at (slice_get rows top.id)) top.at ≡ Some (item.Part p)
    → number_of begun (table_node rows p) ≡ None
    → left_of f rows xs begun (rest_of rows top) top.number (table_node rows top.id)
    ≡ (tag_at (slice_get rows p) ∷ [])
    ++ (run f rows (begun ++ None ∷ []) ((xs ++ on top ∷ []) ++ opened_at p next ∷ [])).bytes
left_opened f rows xs begun top p next row are e number i free =
    let inside = content_of (table_nodes rows) row.items in
    let node : table_node rows p ≡ Node.node row.tag inside = table_at rows are p row e in
    let new : number_of begun (Node.node row.tag inside) ≡ None =
    subst (λ (z : Node). number_of begun z ≡ None) node free in
    ap (λ (c : Content). left_of f rows xs begun c top.number (table_node rows top.id))
    (rest_some rows top (item.Part p) i)
    ∙ ap (λ (z : Node). left_of f rows xs begun (Content.part z (rest_of rows (on top))) top.number
    (table_node rows top.id)) node
    ∙ left_new f rows xs begun row.tag inside (on top) (opened_at p next) new (rest_opened rows p next row e) number
    node
    ∙ ap (λ (r : Option Row). (tag_at r ∷ [])
    ++ (run f rows (begun ++ None ∷ []) ((xs ++ on top ∷ []) ++ opened_at p next ∷ [])).bytes) (sym e)

going_opened : (f : Format) (rows : List Row) (root : ℕ) (out : List ℕ) (numbers : List (Option ℕ)) (next : ℕ)
    (xs : List Open) (top : Open) (p : ℕ) → AreRows rows → AreApart rows
    → slice_get (items_at (slice_get rows top.id)) top.at ≡ Some (item.Part p) → p < top.id
    → get_or numbers p None ≡ None → length numbers ≡ length rows
    → IsGoing f rows root out numbers next (xs ++ top ∷ [])
    → IsGoing f rows root (out ++ tag_at (slice_get rows p) ∷ []) (set numbers p (Some next)) (next + 1)
    ((xs ++ on top ∷ []) ++ opened_at p next ∷ [])
going_opened f rows root out numbers next xs top p are apart e lt free size h =
    let placed = placed_snoc (length rows) numbers xs top h.placed in
    let nested = nested_snoc xs top h.nested in
    let within : p < length rows = (let top_lt = placed.1 in omega (arith, lt, top_lt)) in
    let inside : p < length numbers = omega (arith, within, size) in
    let row = some_at rows p within in
    let new = opened_at p next in
    let lower = above_lower p top.id xs lt nested.1 in
    let above : AllAbove p (xs ++ on top ∷ []) = above_snoc p xs (on top) lower lt in
    let unknown = number_unknown rows h.begun numbers (xs ++ top ∷ []) next p apart h.known within free in
    let on_placed = snoc_placed (length rows) numbers xs (on top) placed.0 placed.1 placed.2 in
    record {
      begun = h.begun ++ None ∷ [];
      bytes = going_bytes f rows out (tag_at (slice_get rows p) ∷ []) h.begun (h.begun ++ None ∷ []) xs
          ((xs ++ on top ∷ []) ++ new ∷ []) top (spelling f (table_node rows root))
          (left_opened f rows xs h.begun top p next row.0 are row.1 (sym h.known.count) e unknown) h.bytes;
      known = known_open rows h.begun numbers (xs ++ on top ∷ []) new next
          (known_on rows h.begun numbers xs top next h.known) inside free;
      placed = snoc_placed (length rows) (set numbers p (Some next)) (xs ++ on top ∷ []) new
          (placed_set (length rows) numbers p next (xs ++ on top ∷ []) above on_placed) within
          (get_or-set_same numbers p (Some next) None inside);
      nested = snoc_nested (xs ++ on top ∷ []) new (snoc_nested xs (on top) nested.0 nested.1) above;
    }

-- ---- a step

-- what a step keeps and leaves
record Kept (rows : List Row) (root back limit : ℕ) (top : Open) (old : Writing) (effect : Effect) : Type 0 where
  goes : (f : Format) → f.back ≡ back
      → IsGoing f rows root old.out.items old.numbers.items old.next (old.opens ++ top ∷ [])
      → IsGoing f rows root (old.out.items ++ effect.bytes) effect.numbers effect.next (old.opens ++ effect.opened)
  less : weights rows (old.opens ++ effect.opened) < weights rows (old.opens ++ top ∷ [])
  few : effect.next ≤ length old.out.items + length effect.bytes
  numbers : length effect.numbers ≡ length rows

weights_snoc : (rows : List Row) (xs : List Open) (o : Open)
    → weights rows (xs ++ o ∷ []) ≡ weights rows xs + suc (weigh_in (rest_of rows o))
weights_snoc rows [] o = omega arith
weights_snoc rows (x ∷ xs) o = let k = weights_snoc rows xs o in omega (arith, k)

weigh_some : (x : Node) → 2 ≤ weigh x
weigh_some (Node.node tag content) = omega arith

kept_none : (rows : List Row) (root back limit : ℕ) (top : Open) (old : Writing) → HasRoom (length rows) limit old
    → slice_get (items_at (slice_get rows top.id)) top.at ≡ None
    → Kept rows root back limit top old (stepped_by None rows back top old)
kept_none rows root back limit top old room e = record {
  goes = λ f is h.
      subst (λ (o : List ℕ). IsGoing f rows root o old.numbers.items old.next (old.opens ++ []))
      (sym (append-nil old.out.items))
      (subst (λ (os : List Open). IsGoing f rows root old.out.items old.numbers.items old.next os)
      (sym (append-nil old.opens))
      (going_none f rows root old.out.items old.numbers.items old.next old.opens top e h));
  less =
      let same = ap (weights rows) (append-nil old.opens) in
      let before = weights_snoc rows old.opens top in
      omega (arith, same, before);
  few = let k = room.few in omega (arith, k);
  numbers = room.numbers;
}

kept_piece : (rows : List Row) (root back limit : ℕ) (top : Open) (old : Writing) (text : List ℕ)
    → HasRoom (length rows) limit old
    → slice_get (items_at (slice_get rows top.id)) top.at ≡ Some (item.Piece text)
    → Kept rows root back limit top old (stepped_by (Some (item.Piece text)) rows back top old)
kept_piece rows root back limit top old text room e = record {
  goes = λ f is h. going_piece f rows root old.out.items old.numbers.items old.next old.opens top text e h;
  less =
      let rest = ap weigh_in (rest_some rows top (item.Piece text) e) in
      let before = weights_snoc rows old.opens top in
      let after = weights_snoc rows old.opens (on top) in
      omega (arith, rest, before, after);
  few = let k = room.few in omega (arith, k);
  numbers = room.numbers;
}

kept_known : (rows : List Row) (root back limit : ℕ) (top : Open) (old : Writing) (p m : ℕ) → AreApart rows
    → HasRoom (length rows) limit old
    → slice_get (items_at (slice_get rows top.id)) top.at ≡ Some (item.Part p) → p < top.id
    → get_or old.numbers.items p None ≡ Some m
    → Kept rows root back limit top old
    (record (visited_by (Some m) rows back p old) { opened = on top ∷ (visited_by (Some m) rows back p old).opened })
kept_known rows root back limit top old p m apart room e lt number = record {
  goes = λ f is h.
      subst (λ (b : ℕ). IsGoing f rows root (old.out.items ++ (b ∷ u32_of m)) old.numbers.items old.next
      (old.opens ++ on top ∷ [])) is
      (going_known f rows root old.out.items old.numbers.items old.next old.opens top p m apart e lt number h);
  less =
      let rest = ap weigh_in (rest_some rows top (item.Part p) e) in
      let some = weigh_some (table_node rows p) in
      let before = weights_snoc rows old.opens top in
      let after = weights_snoc rows old.opens (on top) in
      omega (arith, rest, some, before, after);
  few = let k = room.few in omega (arith, k);
  numbers = room.numbers;
}

kept_opened : (rows : List Row) (root back limit : ℕ) (top : Open) (old : Writing) (p : ℕ) → AreRows rows
    → AreApart rows → HasRoom (length rows) limit old
    → slice_get (items_at (slice_get rows top.id)) top.at ≡ Some (item.Part p) → p < top.id → p < length rows
    → get_or old.numbers.items p None ≡ None
    → Kept rows root back limit top old
    (record (visited_by None rows back p old) { opened = on top ∷ (visited_by None rows back p old).opened })
kept_opened rows root back limit top old p are apart room e lt within free =
    let new = opened_at p old.next in
    let both : (old.opens ++ on top ∷ []) ++ new ∷ [] ≡ old.opens ++ on top ∷ new ∷ [] =
    append_assoc old.opens (on top ∷ []) (new ∷ []) in
    record {
      goes = λ f is h.
          subst (λ (os : List Open). IsGoing f rows root (old.out.items ++ tag_at (slice_get rows p) ∷ [])
          (set old.numbers.items p (Some old.next)) (old.next + 1) os) both
          (going_opened f rows root old.out.items old.numbers.items old.next old.opens top p are apart e lt free
          room.numbers h);
      less =
          let row = some_at rows p within in
          let node = ap weigh (table_at rows are p row.0 row.1) in
          let inside = ap weigh_in (rest_opened rows p old.next row.0 row.1) in
          let rest = ap weigh_in (rest_some rows top (item.Part p) e) in
          let before = weights_snoc rows old.opens top in
          let after = weights_snoc rows old.opens (on top) in
          let further = weights_snoc rows (old.opens ++ on top ∷ []) new in
          let same = ap (weights rows) both in
          omega (arith, node, inside, rest, before, after, further, same);
      few = let k = room.few in omega (arith, k);
      numbers = length-set old.numbers.items p (Some old.next) ∙ room.numbers;
    }

kept_part : (rows : List Row) (root back limit : ℕ) (top : Open) (old : Writing) (p : ℕ) (o : Option ℕ) → AreRows rows
    → AreApart rows → HasRoom (length rows) limit old
    → slice_get (items_at (slice_get rows top.id)) top.at ≡ Some (item.Part p) → p < top.id → p < length rows
    → get_or old.numbers.items p None ≡ o
    → Kept rows root back limit top old
    (record (visited_by o rows back p old) { opened = on top ∷ (visited_by o rows back p old).opened })
kept_part rows root back limit top old p None are apart room e lt within number =
    kept_opened rows root back limit top old p are apart room e lt within number
kept_part rows root back limit top old p (Some m) are apart room e lt within number =
    kept_known rows root back limit top old p m apart room e lt number

kept_by : (rows : List Row) (root back limit : ℕ) (top : Open) (old : Writing) (it : Option Item) → AreRows rows
    → AreApart rows → HasRoom (length rows) limit old → top.id < length rows
    → slice_get (items_at (slice_get rows top.id)) top.at ≡ it
    → Kept rows root back limit top old (stepped_by it rows back top old)
kept_by rows root back limit top old None are apart room has e = kept_none rows root back limit top old room e
kept_by rows root back limit top old (Some (item.Piece text)) are apart room has e =
    kept_piece rows root back limit top old text room e
kept_by rows root back limit top old (Some (item.Part p)) are apart room has e =
    let row = some_at rows top.id has in
    let here : slice_get row.0.items top.at ≡ Some (item.Part p) =
    ap (λ (r : Option Row). slice_get (items_at r) top.at) (sym row.1) ∙ e in
    let lt : p < top.id = are.before top.id row.0 top.at p row.1 here in
    kept_part rows root back limit top old p (get_or old.numbers.items p None) are apart room e lt
    (omega (arith, lt, has)) refl

kept : (rows : List Row) (root back limit : ℕ) (top : Open) (old : Writing) → AreRows rows → AreApart rows
    → HasRoom (length rows) limit old → top.id < length rows
    → Kept rows root back limit top old (stepped rows back top old)
kept rows root back limit top old are apart room has =
    kept_by rows root back limit top old (slice_get (items_at (slice_get rows top.id)) top.at) are apart room has refl

-- ---- what the loop is helped with

-- a format with this tag of back references
some_format : ℕ → Format
some_format back = record { back = back; shape = λ tag. Shape.refused }

-- the innermost open node stands in the table
pub top_has : (rows : List Row) (root back : ℕ) (state : Writing) (xs : List Open) (top : Open)
    → Goes rows root back state → state.opens ≡ xs ++ top ∷ [] → top.id < length rows
unfolding some_format
top_has rows root back state xs top h e =
    let going = h.goes (some_format back) refl in
    (placed_snoc (length rows) state.numbers.items xs top
    (subst (λ (os : List Open). AreOpen (length rows) state.numbers.items os) e going.placed)).1

pub room_kept : (rows : List Row) (root back limit : ℕ) (top : Open) (old new : Writing) → AreRows rows → AreApart rows
    → HasRoom (length rows) limit old → top.id < length rows
    → IsDone limit (stepped rows back top old) old new → HasRoom (length rows) limit new
room_kept rows root back limit top old new are apart room has done =
    let k = kept rows root back limit top old are apart room has in
    let few = k.few in
    let next = done.next in
    let size = ap length done.out ∙ length-append old.out.items (stepped rows back top old).bytes in
    record {
      fits = done.fits;
      few = omega (arith, few, next, size);
      numbers = ap length done.numbers ∙ k.numbers;
    }

pub goes_kept : (rows : List Row) (root back limit : ℕ) (top : Open) (before old new : Writing) → AreRows rows
    → AreApart rows → HasRoom (length rows) limit old → top.id < length rows → Goes rows root back before
    → before.out.items ≡ old.out.items → before.numbers.items ≡ old.numbers.items → before.next ≡ old.next
    → before.opens ≡ old.opens ++ top ∷ []
    → IsDone limit (stepped rows back top old) old new → Goes rows root back new
goes_kept rows root back limit top before old new are apart room has h out numbers next opens done = record {
  goes = λ f is.
      let k = kept rows root back limit top old are apart room has in
      let at = subst (λ (z : List ℕ). IsGoing f rows root z old.numbers.items old.next (old.opens ++ top ∷ [])) out
      (subst (λ (z : List (Option ℕ)). IsGoing f rows root before.out.items z old.next (old.opens ++ top ∷ [])) numbers
      (subst (λ (z : ℕ). IsGoing f rows root before.out.items before.numbers.items z (old.opens ++ top ∷ [])) next
      (subst (λ (z : List Open). IsGoing f rows root before.out.items before.numbers.items before.next z) opens
      (h.goes f is)))) in
      let effect = stepped rows back top old in
      subst (λ (z : List ℕ). IsGoing f rows root z new.numbers.items new.next new.opens) (sym done.out)
      (subst (λ (z : List (Option ℕ)). IsGoing f rows root (old.out.items ++ effect.bytes) z new.next new.opens)
      (sym done.numbers)
      (subst (λ (z : ℕ). IsGoing f rows root (old.out.items ++ effect.bytes) effect.numbers z new.opens) (sym done.next)
      (subst (λ (z : List Open). IsGoing f rows root (old.out.items ++ effect.bytes) effect.numbers effect.next z)
      (sym done.opens) (k.goes f is at))));
}

pub weights_less : (rows : List Row) (root back limit : ℕ) (top : Open) (old new : Writing) (opens : List Open)
    → AreRows rows → AreApart rows → HasRoom (length rows) limit old → top.id < length rows
    → opens ≡ old.opens ++ top ∷ [] → IsDone limit (stepped rows back top old) old new
    → weights rows new.opens < weights rows opens
weights_less rows root back limit top old new opens are apart room has e done =
    let k = kept rows root back limit top old are apart room has in
    let less = k.less in
    let after = ap (weights rows) done.opens in
    let before = ap (weights rows) e in
    omega (arith, less, after, before)

-- bytes that pass the limit are at the front of the spelling
too_long : (f : Format) (rows : List Row) (root limit : ℕ) (out bytes : List ℕ) (numbers : List (Option ℕ)) (next : ℕ)
    (opens : List Open) → limit < length out + length bytes → IsGoing f rows root (out ++ bytes) numbers next opens
    → limit < length (spelling f (table_node rows root))
too_long f rows root limit out bytes numbers next opens lt h =
    let all = ap length h.bytes in
    let more = length-append (out ++ bytes) (run f rows h.begun opens).bytes in
    let front = length-append out bytes in
    omega (arith, lt, all, more, front)

fails : (f : Format) (rows : List Row) (root back limit : ℕ) (top : Open) (old new : Writing) (e : WriteFault)
    → Kept rows root back limit top old (stepped rows back top old) → f.back ≡ back
    → IsGoing f rows root old.out.items old.numbers.items old.next (old.opens ++ top ∷ [])
    → Done limit (stepped rows back top old) old new (Err e)
    → Writes limit (spelling f (table_node rows root)) (Err e)
fails f rows root back limit top old new fault.TooLong k is h lt =
    too_long f rows root limit old.out.items (stepped rows back top old).bytes (stepped rows back top old).numbers
    (stepped rows back top old).next (old.opens ++ (stepped rows back top old).opened) lt (k.goes f is h)
fails f rows root back limit top old new fault.NoMemory k is h done = tt

as_error : (limit : ℕ) (s : List ℕ) (r : Result (List ℕ) WriteFault) (e : WriteFault)
    → IsErrAnd r (λ y. y ≡ e) → Writes limit s (Err e) → Writes limit s r
as_error limit s (Ok x) e is h = absurd is
as_error limit s (Err y) e is h = subst (λ (z : WriteFault). Writes limit s (Err z)) (sym is) h

pub step_fails : (f : Format) (rows : List Row) (root back limit : ℕ) (top : Open) (before old new : Writing)
    (r : Result (List ℕ) WriteFault) (e : WriteFault) → AreRows rows
    → AreApart rows → HasRoom (length rows) limit old → top.id < length rows → Goes rows root back before
    → before.out.items ≡ old.out.items → before.numbers.items ≡ old.numbers.items → before.next ≡ old.next
    → before.opens ≡ old.opens ++ top ∷ [] → f.back ≡ back
    → Done limit (stepped rows back top old) old new (Err e) → IsErrAnd r (λ y. y ≡ e)
    → Writes limit (spelling f (table_node rows root)) r
step_fails f rows root back limit top before old new r e are apart room has h out numbers next opens is done err =
    let k = kept rows root back limit top old are apart room has in
    let at = subst (λ (z : List ℕ). IsGoing f rows root z old.numbers.items old.next (old.opens ++ top ∷ [])) out
    (subst (λ (z : List (Option ℕ)). IsGoing f rows root before.out.items z old.next (old.opens ++ top ∷ [])) numbers
    (subst (λ (z : ℕ). IsGoing f rows root before.out.items before.numbers.items z (old.opens ++ top ∷ [])) next
    (subst (λ (z : List Open). IsGoing f rows root before.out.items before.numbers.items before.next z) opens
    (h.goes f is)))) in
    as_error limit (spelling f (table_node rows root)) r e err (fails f rows root back limit top old new e k is at done)

-- ---- the beginning and the end

spelled_some : (f : Format) (x : Node) → 0 < length (spelling f x)
spelled_some f (Node.node tag content) = omega arith

begin_fails_as : (f : Format) (rows : List Row) (root limit : ℕ) (e : WriteFault) → Begins rows root limit (Err e)
    → Writes limit (spelling f (table_node rows root)) (Err e)
begin_fails_as f rows root limit fault.TooLong lt =
    let some = spelled_some f (table_node rows root) in omega (arith, lt, some)
begin_fails_as f rows root limit fault.NoMemory h = tt

pub begin_fails : (f : Format) (rows : List Row) (root limit : ℕ) (r : Result (List ℕ) WriteFault) (e : WriteFault)
    → Begins rows root limit (Err e) → IsErrAnd r (λ y. y ≡ e) → Writes limit (spelling f (table_node rows root)) r
begin_fails f rows root limit r e h is =
    as_error limit (spelling f (table_node rows root)) r e is (begin_fails_as f rows root limit e h)

pub room_begun : (rows : List Row) (root limit : ℕ) (state : Writing) → IsBegun rows root limit state
    → HasRoom (length rows) limit state
room_begun rows root limit state h =
    let size = ap length h.out in
    let next = h.next in
    record {
      fits = h.fits;
      few = omega (arith, size, next);
      numbers = ap length h.numbers ∙ length-set (replicate (length rows) None) root (Some 0)
          ∙ length-replicate (length rows) None;
    }

none_there : (n p m : ℕ) → get_or (replicate n None) p None ≡ Some m → ⊥
none_there zero p m e = absurd (cc)
none_there (suc n) zero m e = absurd (cc)
none_there (suc n) (suc p) m e = none_there n p m e

abbrev nothing_yet : ℕ → List (Option ℕ)
nothing_yet n = replicate n None

free_at : (n p : ℕ) → get_or (nothing_yet n) p None ≡ None
free_at zero p = refl
free_at (suc n) zero = refl
free_at (suc n) (suc p) = free_at n p

known_nothing : (rows : List Row) (n : ℕ) → Known rows [] (replicate n None) [] 0
known_nothing rows n = record {
  numbered = λ p m e. absurd (none_there n p m e);
  stands = λ m x e. absurd (cc);
  below = λ p m e. absurd (none_there n p m e);
  one = λ p q m e i. absurd (none_there n p m e);
  count = refl;
}

spelled_begun : (f : Format) (rows : List Row) (root : ℕ) (row : Row) → AreRows rows → slice_get rows root ≡ Some row
    → (row.tag ∷ []) ++ (run f rows (None ∷ []) (opened_at root 0 ∷ [])).bytes ≡ spelling f (table_node rows root)
spelled_begun f rows root row are e =
    let inside = content_of (table_nodes rows) row.items in
    let node : table_node rows root ≡ Node.node row.tag inside = table_at rows are root row e in
    ap (λ (b : List ℕ). row.tag ∷ b)
    (run_left f rows (None ∷ []) [] (opened_at root 0)
    ∙ append-nil (spelled_content f (None ∷ []) (rest_of rows (opened_at root 0))).bytes
    ∙ ap (λ (c : Content). (spelled_content f (None ∷ []) c).bytes) (rest_opened rows root 0 row e))
    ∙ ap (λ (x : Node). spelling f x) (sym node)

going_begun : (f : Format) (rows : List Row) (root : ℕ) → AreRows rows → root < length rows
    → IsGoing f rows root (tag_at (slice_get rows root) ∷ []) (set (replicate (length rows) None) root (Some 0)) 1
    (opened_at root 0 ∷ [])
going_begun f rows root are has =
    let row = some_at rows root has in
    let none : List (Option ℕ) = replicate (length rows) None in
    let size : length none ≡ length rows = length-replicate (length rows) None in
    let inside : root < length none = omega (arith, has, size) in
    record {
      begun = None ∷ [];
      bytes = ap (λ (r : Option Row). (tag_at r ∷ [])
          ++ (run f rows (None ∷ []) (opened_at root 0 ∷ [])).bytes) row.1
          ∙ spelled_begun f rows root row.0 are row.1;
      known = known_open rows [] none [] (opened_at root 0) 0 (known_nothing rows (length rows)) inside
          (free_at (length rows) root);
      placed = (has, get_or-set_same none root (Some 0) None inside, tt);
      nested = (tt, tt);
    }

pub goes_begun : (rows : List Row) (root back limit : ℕ) (state : Writing) → AreRows rows → root < length rows
    → IsBegun rows root limit state → Goes rows root back state
goes_begun rows root back limit state are has h = record {
  goes = λ f is.
      subst (λ (z : List ℕ). IsGoing f rows root z state.numbers.items state.next state.opens) (sym h.out)
      (subst (λ (z : List (Option ℕ)). IsGoing f rows root (tag_at (slice_get rows root) ∷ []) z state.next state.opens)
      (sym h.numbers)
      (subst (λ (z : ℕ). IsGoing f rows root (tag_at (slice_get rows root) ∷ [])
      (set (replicate (length rows) None) root (Some 0)) z state.opens) (sym h.next)
      (subst (λ (z : List Open). IsGoing f rows root (tag_at (slice_get rows root) ∷ [])
      (set (replicate (length rows) None) root (Some 0)) 1 z) (sym h.opens) (going_begun f rows root are has))));
}

-- nothing is open: all is written
pub all_written : (f : Format) (rows : List Row) (root back limit : ℕ) (state : Writing) (text : List ℕ)
    → f.back ≡ back → Goes rows root back state → HasRoom (length rows) limit state → state.opens ≡ []
    → text ≡ state.out.items → Writes limit (spelling f (table_node rows root)) (Ok text)
all_written f rows root back limit state text is h room none e =
    let going = h.goes f is in
    let all : state.out.items ≡ spelling f (table_node rows root) =
    sym (append-nil state.out.items)
    ∙ ap (λ (os : List Open). state.out.items ++ (run f rows going.begun os).bytes) (sym none) ∙ going.bytes in
    (e ∙ all, let size = ap length all in let fits = room.fits in omega (arith, size, fits))
