-- How functors and the declarations of the top level are read, a step at a time.
use Rattle.std.proofs.Common.{◌≡◌, ℕ, ◌<◌, List, [], ◌∷◌, Option, Some, None, Bool, true, false, refl, sym, ap, ◌∙◌, drop, length, arith}
use Rattle.grammars.specs.Grammar.{Grammar, End, begins, head_or}
use Rattle.grammars.specs.Reading.{Out, chain, read}
use Rattle.grammars.proofs.Complete.{goes, stops}
use Rattle.grammars.proofs.Rounds.{not_longer}
use Rattle.sml_lexer.specs.declared.lexeme.Lexeme.{Lexeme}
use Rattle.sml_trees.specs.declared.full_sig.FullSpec.{FullSpec}
use Rattle.sml_trees.specs.declared.full_unit.FullParam.{FullParam}
use Rattle.sml_trees.specs.declared.full_unit.FullParam.TheVariants as param
use Rattle.sml_trees.specs.declared.full_unit.FullTopDec.{FullTopDec}
use Rattle.sml_trees.specs.declared.name.Name.{Name}
use Rattle.phrase_reading.specs.Reads.{Stops}
use Rattle.phrase_reading.specs.Sized.{part}
use Rattle.phrase_reading.specs.Words.{is, word}
use Rattle.phrase_reading.specs.declared.stop.Stop.{Stop}
use Rattle.phrase_reading.specs.declared.tall.Tall.{Tall}
use Rattle.sml_lexer.specs.declared.words.Word.TheVariants as w
use Rattle.module_parser.specs.Functors.{begin_at, specs_at, spec_param}
use Rattle.signature_parser.specs.Rounds.{next_begin, if_begins}
use Rattle.signature_parser.specs.SigLevels.{sig_level, sig_below}
use Rattle.signature_parser.specs.Specifications.{is_spec_round, spec_round, specs_from, no_specs}
use Rattle.module_parser.specs.Units.{starts_top, semicolon, top_round, topdecs_from}
use Rattle.signature_parser.proofs.SigSteps.{begin_end, begin_kept, begin_stops, begin_left, specs_go}

-- ---- a functor's parameter

-- what begins at a lexeme, or at the functor's name
abbrev spec_tree : Option Lexeme → Name → Tall (List FullSpec) → Tall FullParam
spec_tree x functor found = part (λ (specs : List FullSpec). param.Spec specs (begin_at x functor)) found

abbrev placed : Option Lexeme → Name → Out Lexeme (Tall (List FullSpec)) → Out Lexeme (Tall FullParam)
placed x functor o = chain o (λ found rest. Out.out (End.whole (spec_tree x functor found)) rest)

regroup : (n : ℕ) (x : Option Lexeme) (functor : Name) (o : Out Lexeme (Tall (List FullSpec)))
    → chain o (λ first rest. placed x functor (read (specs_from n (sig_below n) first) rest))
    ≡ placed x functor (chain o (λ first rest. read (specs_from n (sig_below n) first) rest))
regroup n x functor (Out.out (End.whole first) rest) = refl
regroup n x functor (Out.out End.refused rest) = refl
regroup n x functor (Out.out End.deep rest) = refl

pub param_is : (n : ℕ) (functor : Name) (xs : List Lexeme)
    → read (spec_param n functor) xs
    ≡ chain (read (sig_level n).specs xs)
    (λ found rest. Out.out (End.whole (spec_tree (next_begin is_spec_round (head_or xs None)) functor found)) rest)
unfolding spec_param specs_at specs_from
param_is n functor [] = refl
param_is n functor (y ∷ xs) = by_test (is_spec_round (word y)) refl
  where
    by_test : (b : Bool) → is_spec_round (word y) ≡ b
        → read (spec_param n functor) (y ∷ xs) ≡ placed (if_begins b y) functor (read (sig_level n).specs (y ∷ xs))
    by_test true fact =
        goes (is_spec_round (word y)) _ _ fact
        ∙ regroup n (Some y) functor (read (spec_round n (sig_below n) no_specs y) xs)
        ∙ ap (placed (Some y) functor)
        (sym (specs_go n (sig_below n) no_specs y (y ∷ xs) (ap (λ (b : Bool). if_begins b y) fact)))
    by_test false fact =
        stops (is_spec_round (word y)) _ _ fact
        ∙ ap (placed None functor)
        (sym (begin_end is_spec_round (spec_round n (sig_below n)) no_specs (y ∷ xs) (ap (λ (b : Bool). if_begins b y) fact)))

pub ruleset param_steps = (param_is)

-- ---- declarations of the top level

pub semicolon_go : (xs : List Lexeme) → begins (is w.Semicolon) (head_or xs None) ≡ true
    → read semicolon xs ≡ Out.out (End.whole tt) (drop 1 xs)
unfolding semicolon
semicolon_go [] h = absurd (cc)
semicolon_go (x ∷ xs) h = goes (is w.Semicolon x) _ _ h

pub semicolon_stop : (xs : List Lexeme) → begins (is w.Semicolon) (head_or xs None) ≡ false
    → read semicolon xs ≡ Out.out (End.whole tt) xs
unfolding semicolon
semicolon_stop [] h = refl
semicolon_stop (x ∷ xs) h = stops (is w.Semicolon x) _ _ h

pub ruleset semicolon_steps = (semicolon_go, semicolon_stop)

pub topdecs_end : (n : ℕ) (found : Tall (List FullTopDec)) (xs : List Lexeme)
    → next_begin starts_top (head_or xs None) ≡ None
    → read (topdecs_from n found) xs ≡ Out.out (End.whole found) xs
unfolding topdecs_from
topdecs_end n found xs h = begin_end starts_top (top_round n) found xs h

pub topdecs_kept : (n : ℕ) (found next : Tall (List FullTopDec)) (x : Lexeme) (xs rest : List Lexeme)
    (target : Out Lexeme (Tall (List FullTopDec))) → next_begin starts_top (head_or xs None) ≡ Some x
    → read (top_round n found x) (drop 1 xs) ≡ Out.out (End.whole next) rest
    → read (topdecs_from n found) xs ≡ target → read (topdecs_from n next) rest ≡ target
unfolding topdecs_from
topdecs_kept n found next x xs rest target h is so = begin_kept starts_top (top_round n) found next x xs rest target h is so

pub topdecs_stops : (n : ℕ) (found : Tall (List FullTopDec)) (x : Lexeme) (why : Stop) (xs rest : List Lexeme)
    (target : Out Lexeme (Tall (List FullTopDec))) → next_begin starts_top (head_or xs None) ≡ Some x
    → Stops why (read (top_round n found x) (drop 1 xs)) rest
    → read (topdecs_from n found) xs ≡ target → Stops why target rest
unfolding topdecs_from
topdecs_stops n found x why xs rest target h is so = begin_stops starts_top (top_round n) found x why xs rest target h is so

pub topdecs_left : (x : Lexeme) (xs : List Lexeme) → next_begin starts_top (head_or xs None) ≡ Some x
    → length (drop 1 xs) < length xs
topdecs_left x xs h = begin_left starts_top x xs h

pub ruleset topdecs_steps = (topdecs_end, not_longer, topdecs_left)
