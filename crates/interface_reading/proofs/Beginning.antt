-- Reading is begun with the first node, and ends with the last one.
use Rattle.std.proofs.Common.{◌≡◌, ◌≢◌, ℕ, zero, suc, ◌<◌, refl, sym, ap, subst, ◌∙◌, List, [], ◌∷◌, ◌++◌, length, get_or, Option, Some, None, Bool, true, false, arith}
use Rattle.std.specs.Prelude.{Result, Ok, Err, IsErrAnd}
use Rattle.indexmap.specs.IndexSet.{IndexSet}
use Rattle.cm_bytes.specs.Fields.{◌>>=◌, u32_at}
use Rattle.cm_bytes.proofs.Fields.{some_is}
use Rattle.node_bytes.specs.Nodes.{Node, Content, node_of}
use Rattle.node_bytes.specs.Formats.{Shape}
use Rattle.node_bytes.specs.Reading.{alone_at}
use Rattle.node_bytes.specs.Interfaces.{interfaces, interface_shape}
use Rattle.node_bytes.specs.Tables.{table_nodes, AreRows}
use Rattle.node_bytes.specs.declared.table.Row.{Row}
use Rattle.node_tables.specs.Tables.{HasParts}
use Rattle.interface_reading.specs.Open.{going}
use Rattle.interface_reading.specs.Remaining.{last_node, finish, left_with, left_of, AreSound, IsOpened, OpensNode, ReadsOpen, IsRead}
use Rattle.interface_reading.specs.Rows.{HasBegun, Begins, SpellRows, SpellNone, ReadsRows}
use Rattle.interface_reading.specs.declared.fault.RestoreFault.{RestoreFault}
use Rattle.interface_reading.specs.declared.fault.RestoreFault.TheVariants as fault
use Rattle.interface_reading.specs.declared.needs.Need.{Need}
use Rattle.interface_reading.specs.declared.open.Open.{Open}
use Rattle.interface_reading.specs.declared.reading.Reading.{Reading}
use Rattle.interface_reading.proofs.Moves.{node_opens, node_back, alone_is}
use Rattle.interface_reading.proofs.Moving.{moved}

-- ---- errors

pub begins_not : (r : Result Reading RestoreFault) (e : RestoreFault) (bytes rest : List ℕ)
    → IsErrAnd r (λ y. y ≡ e) → Begins bytes rest (Err e) → Begins bytes rest r
begins_not (Ok state) e bytes rest is h = absurd is
begins_not (Err y) e bytes rest is h = subst (λ (z : RestoreFault). Begins bytes rest (Err z)) (sym is) h

pub nothing_begins : (bytes : List ℕ) → bytes ≡ [] → alone_at interfaces bytes ≡ None
nothing_begins bytes e = ap (alone_at interfaces) e ∙ alone_is interfaces []

no_node : (o : Option (ℕ × List ℕ)) → (o >>= λ n. node_of [] n.0 >>= λ x. finish [] x n.1) ≡ None
no_node (Some n) = refl
no_node None = refl

pub back_begins : (bytes rest : List ℕ) (tag : ℕ) → bytes ≡ tag ∷ rest → tag ≡ 12
    → alone_at interfaces bytes ≡ None
back_begins bytes rest tag e is =
    ap (alone_at interfaces) (e ∙ ap (λ (t : ℕ). t ∷ rest) is)
    ∙ alone_is interfaces (12 ∷ rest)
    ∙ node_back interfaces finish [] rest
    ∙ no_node (u32_at rest)

tag_begins : (bytes rest : List ℕ) (tag : ℕ) → bytes ≡ tag ∷ rest → tag ≢ 12
    → alone_at interfaces bytes
    ≡ going interfaces finish (record { tag = tag; number = 0; before = Content.nothing; shape = interface_shape tag })
    (None ∷ []) rest
tag_begins bytes rest tag e other =
    ap (alone_at interfaces) e ∙ alone_is interfaces (tag ∷ rest) ∙ node_opens interfaces finish [] tag rest other

pub begin_refused : (bytes rest : List ℕ) (tag : ℕ) (e : RestoreFault) (old new : Reading) → bytes ≡ tag ∷ rest
    → tag ≢ 12 → OpensNode tag (Err e) old new → Begins bytes rest (Err e)
begin_refused bytes rest tag fault.BadInterface old new is other h =
    tag_begins bytes rest tag is other
    ∙ ap (λ (z : Shape). going interfaces finish
    (record {
      tag = tag;
      number = 0;
      before = Content.nothing;
      shape = z;
    }) (None ∷ []) rest) h
begin_refused bytes rest tag fault.NoMemory old new is other h = tt

-- ---- the first node

abbrev first_open : ℕ → List Need → Open
first_open tag needs = record { tag = tag; number = 0; needs = needs; items = [] }

no_rows : AreRows []
no_rows = record { before = λ p row k part e f. absurd (cc) }

none_placed : (n p : ℕ) → get_or (None ∷ []) n None ≡ Some p → p < 0
none_placed zero p e = absurd (cc)
none_placed (suc n) p e = absurd (cc)

no_parts : HasParts 0 []
no_parts = record { below = λ k part e. absurd (cc) }

first_sound : (tag : ℕ) (needs : List Need) → AreSound [] (None ∷ []) (first_open tag needs ∷ [])
first_sound tag needs = record {
  ordered = no_rows;
  placed = none_placed;
  stands = λ p lt. absurd (omega (arith, lt));
  nested = (record { within = omega arith; free = refl; parts = no_parts }, tt, tt);
  some = omega arith;
}

pub begun : (old new : Reading) (bytes rest : List ℕ) (tag : ℕ) → old.numbers.items ≡ [] → old.rows.keys ≡ []
    → old.opens ≡ [] → bytes ≡ tag ∷ rest → tag ≢ 12 → IsOpened tag old new → HasBegun bytes rest new
begun old new bytes rest tag numbers rows opens e other k =
    let ns : new.numbers.items ≡ None ∷ [] = k.numbers ∙ ap (λ (z : List (Option ℕ)). z ++ None ∷ []) numbers in
    let rs : new.rows.keys ≡ [] = k.rows ∙ rows in
    let inner : List (Option ℕ) → Open =
    λ z. record { tag = tag; number = length z; needs = k.needs; items = [] } in
    let os : new.opens ≡ first_open tag k.needs ∷ [] =
    k.opens ∙ ap (λ (z : List Open). z ++ inner old.numbers.items ∷ []) opens
    ∙ ap (λ (z : List (Option ℕ)). inner z ∷ []) numbers in
    let goes : alone_at interfaces bytes ≡ left_with [] (None ∷ []) (first_open tag k.needs ∷ []) rest =
    tag_begins bytes rest tag e other
    ∙ ap (λ (z : Shape). going interfaces finish
    (record {
      tag = tag;
      number = 0;
      before = Content.nothing;
      shape = z;
    }) (None ∷ []) rest) (sym k.shape) in
    record {
      holds = moved (λ r n z. AreSound r n z) [] (None ∷ []) (first_open tag k.needs ∷ []) new rs ns os
          (first_sound tag k.needs);
      goes = moved (λ r n z. alone_at interfaces bytes ≡ left_with r n z rest) [] (None ∷ [])
          (first_open tag k.needs ∷ []) new rs ns os goes;
    }

-- ---- the last node

-- what is read in the end
pub whole_read : (first new : Reading) (bytes middle rest : List ℕ) → HasBegun bytes middle first
    → IsRead first new middle rest → alone_at interfaces bytes ≡ Some (last_node (table_nodes new.rows.keys), rest)
whole_read first new bytes middle rest b r =
    b.goes ∙ r.goes
    ∙ ap (λ (z : List Open). left_with new.rows.keys new.numbers.items z rest) r.closed

pub rows_spelled : (first new : Reading) (bytes middle rest : List ℕ) → HasBegun bytes middle first
    → IsRead first new middle rest → rest ≡ [] → SpellRows bytes new.rows.keys
rows_spelled first new bytes middle rest b r e = record {
  ordered = r.holds.ordered;
  some = let some = r.holds.some in
      let none : length new.opens ≡ 0 = ap length r.closed in
      omega (arith, some, none);
  read = whole_read first new bytes middle rest b r
      ∙ ap (λ (z : List ℕ). Some (last_node (table_nodes new.rows.keys), z)) e;
}

abbrev pair_of : Node → List ℕ → Node × List ℕ
pair_of x rest = (x, rest)

pub bytes_left : (first new : Reading) (bytes middle rest : List ℕ) → HasBegun bytes middle first
    → IsRead first new middle rest → (rest ≡ [] → ⊥) → SpellNone bytes
bytes_left first new bytes middle rest b r left = λ x e.
    let last = last_node (table_nodes new.rows.keys) in
    let same : pair_of last rest ≡ pair_of x [] =
    some_is (pair_of last rest) (pair_of x []) (sym (whole_read first new bytes middle rest b r) ∙ e) in
    left (ap (λ (p : Node × List ℕ). p.1) same)

pub none_spelled : (bytes : List ℕ) → alone_at interfaces bytes ≡ None → SpellNone bytes
none_spelled bytes none = λ x e. let k : None ≡ Some (x, []) = sym none ∙ e in absurd (cc)

pub none_read : (first : Reading) (bytes middle : List ℕ) → HasBegun bytes middle first
    → left_of first middle ≡ None → SpellNone bytes
none_read first bytes middle b none = none_spelled bytes (b.goes ∙ none)

-- ---- refusals of the whole

abbrev pub Refuses : List ℕ → RestoreFault → Type 0
Refuses bytes fault.BadInterface = SpellNone bytes
Refuses bytes fault.NoMemory = Unit {0}

pub rows_not : {S : Type 0} (r : Result (IndexSet Row S) RestoreFault) (e : RestoreFault) (bytes : List ℕ)
    → IsErrAnd r (λ y. y ≡ e) → Refuses bytes e → ReadsRows bytes r
rows_not {S} (Ok table) e bytes is h = absurd is
rows_not {S} (Err y) e bytes is h = subst (λ (z : RestoreFault). ReadsRows {S = S} bytes (Err z)) (sym is) (by e h)
  where
    by : (z : RestoreFault) → Refuses bytes z → ReadsRows {S = S} bytes (Err z)
    by fault.BadInterface n = n
    by fault.NoMemory n = tt

pub begin_refuses : (e : RestoreFault) (bytes reader rest : List ℕ) → reader ≡ bytes → Begins reader rest (Err e)
    → Refuses bytes e
begin_refuses fault.BadInterface bytes reader rest is h =
    none_spelled bytes (ap (alone_at interfaces) (sym is) ∙ h)
begin_refuses fault.NoMemory bytes reader rest is h = tt

pub open_refuses : (first new : Reading) (e : RestoreFault) (bytes reader middle rest : List ℕ) → reader ≡ bytes
    → HasBegun reader middle first → ReadsOpen (Err e) first new middle rest → Refuses bytes e
open_refuses first new fault.BadInterface bytes reader middle rest is b h =
    subst SpellNone is (none_read first reader middle b h)
open_refuses first new fault.NoMemory bytes reader middle rest is b h = tt

pub not_both : (b : Bool) → b ≡ false → b ≡ true → ⊥
not_both true e k = absurd (cc)
not_both false e k = absurd (cc)
