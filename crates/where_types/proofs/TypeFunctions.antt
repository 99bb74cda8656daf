-- Type functions of phrases, and what is known after them.
use Rattle.std.proofs.Common.{◌≡◌, ℕ, refl, sym, ap, ap₂, ◌∙◌, List, [], ◌∷◌, length}
use Rattle.std.proofs.lemmas.List.{length-map}
use Rattle.semantic_objects.specs.declared.entry.TypeFn.{TypeFn}
use Rattle.semantic_objects.specs.Trees.{Tree}
use Rattle.unification.specs.Types.{Ty, State}
use Rattle.unification.specs.Closing.{closed_over}
use Rattle.bare_phrases.specs.Phrases.{TyPhrase}
use Rattle.sml_modules.specs.Graphs.{Graph}
use Rattle.name_trails.specs.Trails.{Rows}
use Rattle.type_nodes.specs.Tables.{Table, state}
use Rattle.static_semantics.specs.Inferring.{Progress, Scope, with_written_alone, Answer, ◌>>=◌, gives}
use Rattle.static_semantics.specs.TypeInference.{infer_ty, numbers, as_written, type_function}
use Rattle.type_phrases.specs.Inferred.{progress}
use Rattle.type_declarations.specs.Binding.{infer_function}

length_numbers : (rows : Rows ℕ) → length (numbers rows) ≡ length rows
length_numbers rows = length-map rows (λ (row : List ℕ × ℕ). row.1)

pub function_given : (sc : Scope) (list : Rows ℕ) (phrase : TyPhrase) (ty : Ty) (tree : Tree) (arity : ℕ)
    → infer_ty (with_written_alone (as_written list) sc) phrase ≡ gives ty → tree ≡ closed_over (numbers list) ty
    → arity ≡ length list → infer_function sc list phrase ≡ gives (record { arity = arity; body = tree })
function_given sc list phrase ty tree arity infers closed takes =
    ap (λ (m : Answer Ty). m >>= λ z. gives (type_function (numbers list) z)) infers
    ∙ ap₂ (λ (n : ℕ) (body : Tree). gives (let made : TypeFn = record { arity = n; body = body } in made))
    (length_numbers list ∙ sym takes) (sym closed)

-- what is known stays where types and nodes were made
pub grown_progress : (g h : Graph) (t u : Table) → h.made ≡ g.made → state u ≡ state t → progress t g ≡ progress u h
grown_progress g h t u e f =
    ap₂ (λ (z : State) names. (let st : Progress = record { types = z; names = length names } in st))
    (sym f) (sym e)
