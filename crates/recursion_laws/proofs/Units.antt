-- What is bound in a unit is so.
use Rattle.std.proofs.Common.{◌≡◌, ℕ, List, [], ◌∷◌, map, Option, None, Some, Bool, true, ◌&&◌, refl, sym, ap, ◌∙◌}
use Rattle.std.specs.List.{list_all}
use Rattle.sml_trees.specs.declared.name.At.{At}
use Rattle.sml_trees.specs.declared.name.Name.{Name}
use Rattle.sml_trees.specs.declared.full_unit.FullTopDec.{FullTopDec}
use Rattle.infix_names.specs.Fixities.{initial}
use Rattle.phrase_reading.specs.Words.{at, word}
use Rattle.phrase_reading.specs.declared.tall.Tall.{Tall}
use Rattle.sml_lexer.specs.declared.words.Word.{Word}
use Rattle.sml_lexer.specs.declared.words.Word.TheVariants as w
use Rattle.module_parser.specs.Functors.{fun_bind}
use Rattle.module_parser.specs.StrLevels.{str_level}
use Rattle.module_parser.specs.Units.{top_structures, top_signatures, top_functors, top_funsigs, top_word, top_round, topdecs_from, topdecs}
use Rattle.level_laws.proofs.Keeping.{Keeps, keep_pure, keep_refuse, keep_bind, keep_then, keep_many}
use Rattle.recursion_laws.specs.Functions.{str_bind_binds, functor_binds, topdec_binds}
use Rattle.recursion_laws.specs.Promises.{RecsAreFunctions}
use Rattle.recursion_laws.proofs.Forms.{AllPass, one_passes, more_pass}
use Rattle.recursion_laws.proofs.Exps.{passes}
use Rattle.recursion_laws.proofs.Structures.{bindings_keep, str_keeps, str_bind_keeps, str_level_is}

-- the test of each item, on the item or on what is known of it
tested : {A : Type 0} (facts : A → Bool) (trees : List A) → list_all passes (map facts trees) ≡ list_all facts trees
tested facts [] = refl
tested facts (tree ∷ trees) = ap (λ (rest : Bool). facts tree && rest) (tested facts trees)

fun_bind_keeps : (n : ℕ) (called : Name) → Keeps (fun_bind n called) (λ found. functor_binds found.made.tree ≡ true)
unfolding fun_bind
fun_bind_keeps n called =
    keep_then (λ _. keep_then (λ taken. keep_then (λ _. keep_then (λ given. keep_then (λ _.
    keep_bind (str_keeps n (str_level n) (str_level_is n) initial) (λ body is. keep_pure _ is))))))

top_keeps : (n : ℕ) (place : At) (found : Option Word)
    → Keeps (top_word n place found) (λ made. topdec_binds made.tree ≡ true)
unfolding top_structures top_signatures top_functors top_funsigs
top_keeps n place (Some w.Structure) =
    keep_bind (bindings_keep str_bind_binds (str_bind_keeps n (str_level n) (str_level_is n) n initial)) (λ found are.
    keep_pure _ (sym (tested str_bind_binds found.tree) ∙ are))
top_keeps n place (Some w.Signature) = keep_then (λ found. keep_pure _ refl)
top_keeps n place (Some w.Functor) =
    keep_bind (bindings_keep functor_binds (fun_bind_keeps n)) (λ found are.
    keep_pure _ (sym (tested functor_binds found.tree) ∙ are))
top_keeps n place (Some w.Funsig) = keep_then (λ found. keep_pure _ refl)
top_keeps n place _ = keep_refuse

topdecs_keep : (n : ℕ) (found : Tall (List FullTopDec)) → AllPass passes topdec_binds found.tree
    → Keeps (topdecs_from n found) (λ made. AllPass passes topdec_binds made.tree)
unfolding topdecs_from top_round
topdecs_keep n found are =
    keep_many (λ found x are. keep_bind (top_keeps n (at x) (word x)) (λ next is. keep_then (λ _.
    keep_pure _ (more_pass passes topdec_binds found.tree (next.tree ∷ []) are
    (one_passes passes topdec_binds next.tree is))))) found are

pub recs_are_functions : RecsAreFunctions
unfolding topdecs
recs_are_functions file source unit (lexemes, lexed, height, phrase, named) =
    sym (tested topdec_binds unit.topdecs)
    ∙ (topdecs_keep 127 (record { tree = []; height = 0 }) refl).gives lexemes None
    (record { tree = unit.topdecs; height = height }) phrase
