-- Nodes that are added one after the other.
use Rattle.std.proofs.Common.{◌≡◌, ℕ, ◌+◌, ◌<◌, refl, sym, ap, ap₂, subst, ◌∙◌, List, [], ◌∷◌, ◌++◌, length, map, append_assoc, arith}
use Rattle.std.proofs.lemmas.List.{append-nil, length-append, map-append, get_or_append_left}
use Rattle.node_bytes.specs.Nodes.{Node}
use Rattle.node_bytes.specs.Tables.{nowhere}
use Rattle.node_tables.specs.Tables.{Adds}
use Rattle.semantic_objects.specs.declared.entry.ConEntry.{ConEntry}
use Rattle.semantic_objects.specs.declared.entry.ValueEntry.{ValueEntry}
use Rattle.semantic_objects.specs.Tables.{Table}
use Rattle.interface_format.specs.Trees.{node_of_scheme, row_of_con, row_of_value}
use Rattle.interface_nodes.specs.declared.fields.NamedPlace.{NamedPlace}
use Rattle.interface_nodes.specs.Fields.{node_at, row_at, rows_at, RowsAreBelow}
use Rattle.interface_nodes.specs.Entries.{AddsRows, AddsValue}

-- a node that is made of one that was added before
pub adds_over : (over : Node → Node) (old mid new : List Node) (x : Node) (p q : ℕ) → Adds old mid x p
    → Adds mid new (over (node_at mid p)) q → Adds old new (over x) q
adds_over over old mid new x p q h k = record {
  more = h.more ++ k.more;
  grown = k.grown ∙ ap (λ z. z ++ k.more) h.grown ∙ append_assoc old h.more k.more;
  within = k.within;
  is = k.is ∙ ap over h.is;
}

below_grown : (old more : List Node) (rows : List NamedPlace) → RowsAreBelow (length old) rows
    → RowsAreBelow (length (old ++ more)) rows
below_grown old more [] h = tt
below_grown old more (row ∷ rows) h =
    let k : length (old ++ more) ≡ length old + length more = length-append old more in
    let lt = h.0 in
    (omega (arith, lt, k), below_grown old more rows h.1)

rows_stay : (old more : List Node) (rows : List NamedPlace) → RowsAreBelow (length old) rows
    → rows_at (old ++ more) rows ≡ rows_at old rows
rows_stay old more [] h = refl
rows_stay old more (row ∷ rows) h =
    ap₂ (λ z zs. (row.name, z) ∷ zs) (get_or_append_left old more nowhere row.place h.0)
    (rows_stay old more rows h.1)

-- rows stay where more is added
pub rows_then : (old mid new : List Node) (nodes : Table Node) (rows : List NamedPlace) (x : Node) (p : ℕ)
    → AddsRows old mid nodes rows → Adds mid new x p → AddsRows old new nodes rows
rows_then old mid new nodes rows x p h k = record {
  more = h.more ++ k.more;
  grown = k.grown ∙ ap (λ z. z ++ k.more) h.grown ∙ append_assoc old h.more k.more;
  within = subst (λ z. RowsAreBelow (length z) rows) (sym k.grown) (below_grown mid k.more rows h.within);
  are = ap (λ z. rows_at z rows) k.grown ∙ rows_stay mid k.more rows h.within ∙ h.are;
}

pub no_rows : (old : List Node) (rows : List NamedPlace) → rows ≡ [] → AddsRows old old [] rows
no_rows old rows e = subst (AddsRows old old []) (sym e)
    (record { more = []; grown = sym (append-nil old); within = tt; are = refl })

below_snoc : (n : ℕ) (rows : List NamedPlace) (row : NamedPlace) → RowsAreBelow n rows → row.place < n
    → RowsAreBelow n (rows ++ row ∷ [])
below_snoc n [] row h k = (k, tt)
below_snoc n (r ∷ rows) row h k = (h.0, below_snoc n rows row h.1 k)

-- a row more
pub rows_next : (old mid new : List Node) (nodes : Table Node) (rows longer : List NamedPlace) (row : NamedPlace)
    (x : Node) → AddsRows old mid nodes rows → Adds mid new x row.place → longer ≡ rows ++ row ∷ []
    → AddsRows old new (nodes ++ (row.name, x) ∷ []) longer
rows_next old mid new nodes rows longer row x h k e =
    let stay : AddsRows old new nodes rows = rows_then old mid new nodes rows x row.place h k in
    subst (AddsRows old new (nodes ++ (row.name, x) ∷ [])) (sym e) (record {
      more = stay.more;
      grown = stay.grown;
      within = below_snoc (length new) rows row stay.within k.within;
      are = map-append (row_at new) rows (row ∷ [])
          ∙ ap₂ (λ zs z. zs ++ (row.name, z) ∷ []) stay.are k.is;
    })

-- the rows of the constructors so far; with those that are left they are all
pub record Constructors (home : List ℕ) (all left : List ConEntry) (old new : List Node) (rows : List NamedPlace) :
    Type 0 where
  pub nodes : Table Node
  pub rest : nodes ++ map (row_of_con home) left ≡ map (row_of_con home) all
  pub here : AddsRows old new nodes rows

pub constructors_begin : (home : List ℕ) (all : List ConEntry) (old : List Node) (rows : List NamedPlace) → rows ≡ []
    → Constructors home all all old old rows
constructors_begin home all old rows e = record { nodes = []; rest = refl; here = no_rows old rows e }

pub constructors_next : (home : List ℕ) (all left more : List ConEntry) (con : ConEntry) (old mid new : List Node)
    (rows longer : List NamedPlace) (name : List ℕ) (place : ℕ) → left ≡ con ∷ more → name ≡ con.name
    → Constructors home all left old mid rows → Adds mid new (node_of_scheme home con.scheme) place
    → longer ≡ rows ++ record { name = name; place = place } ∷ [] → Constructors home all more old new longer
constructors_next home all left more con old mid new rows longer name place e f h k g =
    let row : NamedPlace = record { name = name; place = place } in
    let x : Node = node_of_scheme home con.scheme in
    record {
      nodes = h.nodes ++ (name, x) ∷ [];
      rest = append_assoc h.nodes ((name, x) ∷ []) (map (row_of_con home) more)
          ∙ ap (λ m. h.nodes ++ (m, node_of_scheme home con.scheme) ∷ map (row_of_con home) more) f
          ∙ ap (λ z. h.nodes ++ map (row_of_con home) z) (sym e) ∙ h.rest;
      here = rows_next old mid new h.nodes rows longer row x h.here k g;
    }

pub constructors_end : (home : List ℕ) (all left : List ConEntry) (old new : List Node) (rows : List NamedPlace)
    → left ≡ [] → Constructors home all left old new rows → AddsRows old new (map (row_of_con home) all) rows
constructors_end home all left old new rows e h =
    subst (λ (z : Table Node). AddsRows old new z rows)
    (sym (append-nil h.nodes) ∙ ap (λ z. h.nodes ++ map (row_of_con home) z) (sym e) ∙ h.rest) h.here

-- a node over another one and rows, of which each was added
pub adds_beside : (over : Node → Table Node → Node) (old mid third new : List Node) (nodes : Table Node)
    (rows : List NamedPlace) (x : Node) (p q : ℕ) → AddsRows old mid nodes rows → Adds mid third x p
    → Adds third new (over (node_at third p) (rows_at third rows)) q → Adds old new (over x nodes) q
adds_beside over old mid third new nodes rows x p q h k l =
    let stay : AddsRows old third nodes rows = rows_then old mid third nodes rows x p h k in
    record {
      more = stay.more ++ l.more;
      grown = l.grown ∙ ap (λ z. z ++ l.more) stay.grown ∙ append_assoc old stay.more l.more;
      within = l.within;
      is = l.is ∙ ap₂ over k.is stay.are;
    }

-- a row of a value
pub adds_value : (home : List ℕ) (old new : List Node) (name given : List ℕ) (value : ValueEntry) (place : ℕ)
    → given ≡ name → Adds old new (node_of_scheme home value.scheme) place
    → AddsValue old new (row_of_value home (name, value))
    (record { name = given; status = value.status; place = place })
adds_value home old new name given value place e h = record {
  more = h.more;
  grown = h.grown;
  within = h.within;
  is = ap₂ (λ m z. record { name = m; status = value.status; scheme = z }) e h.is;
}
