-- Type structures of datatypes, as the definition makes them.
use Rattle.std.proofs.Common.{◌≡◌, ℕ, zero, suc, ◌+◌, ◌<◌, List, length, map, get_or, refl, sym, ap, ap₂, ◌∙◌, subst, Bool, true, false, eqb, arith}
use Rattle.std.proofs.lemmas.Bool.{eqb-true}
use Rattle.std.proofs.lemmas.List.{length-map}
use Rattle.semantic_objects.specs.declared.name.TyName.{TyName}
use Rattle.semantic_objects.specs.declared.entry.ConEntry.{ConEntry}
use Rattle.semantic_objects.specs.declared.entry.TypeStr.{TypeStr}
use Rattle.semantic_objects.specs.Trees.{Tree, trees_of, binds, binds_any, BindsBelow}
use Rattle.unification.proofs.Walking.{or_either}
use Rattle.unification.specs.Closing.{closed_over}
use Rattle.type_nodes.specs.Tables.{Table}
use Rattle.name_trails.specs.Trails.{Rows}
use Rattle.static_semantics.specs.BasicTypes.{is_equality_variable}
use Rattle.static_semantics.specs.TypeInference.{numbers}
use Rattle.static_semantics.specs.DatatypeInference.{counted, own_name, own_ty, datatype_str}
use Rattle.datatype_elab.specs.declared.dats.DatRead.{DatRead}
use Rattle.datatype_elab.specs.OwnTypes.{own_tree}
use Rattle.datatype_elab.specs.Reading.{con_of}
use Rattle.datatype_elab.specs.Listing.{IsDat}
use Rattle.datatype_elab.specs.Making.{entries_of, marks_of, made_name, type_of_name, made_type}
use Rattle.datatype_elab.proofs.OwnTypes.{own_closed}
use Rattle.datatype_elab.proofs.Entering.{entries_are}

counted_binds : (n first i k : ℕ) → first + n ≡ k → binds_any i (trees_of (map Tree.Bound (counted n first))) ≡ true
    → i < k
counted_binds zero first i k e h = absurd (cc)
counted_binds (suc n) first i k e h =
    or_either (eqb i first) (binds_any i (trees_of (map Tree.Bound (counted n (suc first))))) h
    (λ f. let l : i ≡ first = eqb-true i first f in omega (arith, l, e))
    (counted_binds n (suc first) i k (omega (arith, e)))

-- the type names' own variables are those of their lists
pub own_binds : (name : TyName) (tree : Tree) (list : Rows ℕ) (marks : List Bool) → tree ≡ own_tree name
    → name.arity ≡ length list → marks ≡ marks_of list → BindsBelow (length marks) tree
own_binds name tree list marks e f m = λ i h.
    let l : length marks ≡ name.arity = ap length m ∙ length-map list (λ row. is_equality_variable row.0) ∙ sym f in
    subst (λ n. i < n) (sym l)
    (counted_binds name.arity 0 i name.arity (omega arith) (subst (λ t. binds i t ≡ true) e h))

pub made_is : (home : List ℕ) (first number place : ℕ) (choice marks : List Bool) (dat : DatRead) (name : TyName)
    (body : Tree) (entries : List ConEntry) (eq : Bool) (g_home : List ℕ) → home ≡ g_home → number ≡ first + place
    → eq ≡ get_or choice place false
    → name ≡ own_name g_home number (length dat.list) eq → body ≡ own_tree name → marks ≡ marks_of dat.list
    → entries ≡ entries_of home first choice marks body dat.cons
    → (let str : TypeStr = record { function = record { arity = name.arity; body = body }; cons = entries } in str)
    ≡ made_type home first choice place dat
made_is home first number place choice marks dat name body entries eq g_home h n q e b m c =
    let same : name ≡ made_name home first choice place dat =
    e ∙ ap₂ (λ z k. own_name z k (length dat.list) eq) (sym h) n
    ∙ ap (own_name home (first + place) (length dat.list)) q in
    ap₂ (λ (t : Tree) (es : List ConEntry).
    (let str : TypeStr = record { function = record { arity = name.arity; body = t }; cons = es } in str)) b
    (c ∙ ap₂ (λ ms t. entries_of home first choice ms t dat.cons) m b)
    ∙ ap (λ z. type_of_name home first choice (marks_of dat.list) z dat.cons) same

-- .. as the definition has it
pub made_type_is : (home : List ℕ) (first place : ℕ) (choice : List Bool) (t : Table) (dat : DatRead) → IsDat t dat
    → made_type home first choice place dat
    ≡ datatype_str home first choice dat.list
    (own_ty (made_name home first choice place dat) (numbers dat.list)) (map (con_of t) dat.cons)
made_type_is home first place choice t dat h =
    let name : TyName = made_name home first choice place dat in
    let arity : length dat.list ≡ length (numbers dat.list) = sym (length-map dat.list (λ row. row.1)) in
    let closed : own_tree name ≡ closed_over (numbers dat.list) (own_ty name (numbers dat.list)) =
    sym (ap (λ vs. closed_over vs (own_ty name vs)) h.numbered
    ∙ own_closed name dat.variables.count dat.variables.first (sym h.counted)) in
    ap₂ (λ (n : ℕ) (b : Tree). (let str : TypeStr = record {
      function = record { arity = n; body = b };
      cons = entries_of home first choice (marks_of dat.list) (own_tree name) dat.cons;
    } in str)) arity closed
    ∙ ap (λ (es : List ConEntry). (let str : TypeStr = record {
      function = record {
        arity = length (numbers dat.list);
        body = closed_over (numbers dat.list) (own_ty name (numbers dat.list));
      };
      cons = es;
    } in str))
    (entries_are home first choice dat.list (own_ty name (numbers dat.list)) t dat.variables (marks_of dat.list)
    (own_tree name) h.numbered refl closed dat.cons h.cons)
