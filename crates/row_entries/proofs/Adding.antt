-- One row more is told.
use Rattle.std.proofs.Common.{◌≡◌, ℕ, ◌+◌, ◌<◌, sym, ap, subst, ◌∙◌, arith, List, [], ◌∷◌, ◌++◌, length, get_or, Option, Some, None}
use Rattle.std.proofs.lemmas.List.{length-append, get_or_append_left}
use Rattle.node_bytes.specs.Nodes.{Node}
use Rattle.node_bytes.specs.Tables.{nowhere, row_node}
use Rattle.node_bytes.specs.declared.table.Row.{Row}
use Rattle.semantic_objects.specs.declared.entry.TypeFn.{TypeFn}
use Rattle.semantic_objects.specs.Trees.{TypeScheme}
use Rattle.interface_nodes.specs.Fields.{node_at}
use Rattle.row_types.specs.Told.{TellsRow}
use Rattle.row_types.proofs.Added.{last_item, split_below}
use Rattle.row_entries.specs.declared.rows.EntryRows.{EntryRows}
use Rattle.row_entries.specs.Told.{IsOrNone, IsFunctionOf, IsSchemeOf, AreAllTold, AreEntries, TellsFunction, TellsScheme, TellsEntry}

pub all_push : {A : Type 0} (Is : Node → A → Type 0) (made : List Node) (told new : List (Option A)) (y : Node)
    (found : Option A) → AreAllTold Is made told → IsOrNone (Is y) found → new ≡ told ++ found ∷ []
    → AreAllTold Is (made ++ y ∷ []) new
all_push {A} Is made told new y found h k e =
    let count : length (made ++ y ∷ []) ≡ length made + 1 = length-append made (y ∷ []) in
    let n : length new ≡ length told + 1 = ap length e ∙ length-append told (found ∷ []) in
    let a = h.counted in
    record {
      counted = omega (arith, count, n, a);
      each = λ p lt. split_below p (length made) (omega (arith, lt, count)) (earlier p) (last p);
    }
  where
    earlier : (p : ℕ) → p < length made → IsOrNone (Is (node_at (made ++ y ∷ []) p)) (get_or new p None)
    earlier p lt =
        let a = h.counted in
        let at_node : node_at (made ++ y ∷ []) p ≡ node_at made p = get_or_append_left made (y ∷ []) nowhere p lt in
        let at_told : get_or new p None ≡ get_or told p None =
        ap (λ (z : List (Option A)). get_or z p None) e
        ∙ get_or_append_left told (found ∷ []) None p (omega (arith, lt, a)) in
        subst (λ z. IsOrNone (Is z) (get_or new p None)) (sym at_node)
        (subst (IsOrNone (Is (node_at made p))) (sym at_told) (h.each p lt))

    last : (p : ℕ) → p ≡ length made → IsOrNone (Is (node_at (made ++ y ∷ []) p)) (get_or new p None)
    last p i =
        let at_node : node_at (made ++ y ∷ []) p ≡ y = last_item made y nowhere p (sym i) in
        let at_told : get_or new p None ≡ found =
        ap (λ (z : List (Option A)). get_or z p None) e ∙ last_item told found None p (h.counted ∙ sym i) in
        subst (λ z. IsOrNone (Is z) (get_or new p None)) (sym at_node) (subst (IsOrNone (Is y)) (sym at_told) k)

pub none_told : {A : Type 0} (Is : Node → A → Type 0) (told : List (Option A)) → told ≡ [] → AreAllTold Is [] told
none_told Is told e = record {
  counted = ap length e;
  each = λ p lt. absurd (omega (arith, lt));
}

pub entry_added : (home : List ℕ) (old new : EntryRows) (row : Row) (function : Option TypeFn) (scheme : Option TypeScheme)
    (is : Rattle.std.proofs.Common.Bool)
    → TellsFunction old.types row function → TellsScheme old.types row scheme
    → TellsRow home old.types row new.types is → new.functions ≡ old.functions ++ function ∷ []
    → new.schemes ≡ old.schemes ++ scheme ∷ [] → TellsEntry home old row new
entry_added home old new row function scheme is f s t e g made told = record {
  types = t made told.types;
  functions = all_push (IsFunctionOf home) made old.functions new.functions (row_node made row) function told.functions
      (f home made told.types) e;
  schemes = all_push (IsSchemeOf home) made old.schemes new.schemes (row_node made row) scheme told.schemes
      (s home made told.types) g;
}

-- no row is told yet
pub entries_none : (home : List ℕ) (rows : EntryRows) → Rattle.row_types.specs.Told.AreTold home [] rows.types
    → rows.functions ≡ [] → rows.schemes ≡ [] → AreEntries home [] rows
entries_none home rows t e f = record {
  types = t;
  functions = none_told (IsFunctionOf home) rows.functions e;
  schemes = none_told (IsSchemeOf home) rows.schemes f;
}
