-- How heads of clauses are read, a step at a time.
use Rattle.std.proofs.Common.{◌≡◌, ℕ, ◌+◌, ◌&&◌, ◌-◌, ◌∷◌, [], ◌<◌, ◌≤◌, max, List, None, Bool, true, false, refl, ap, sym, ◌∙◌, drop, length, arith, nat_lt}
use Rattle.std.proofs.lemmas.Bool.{lt-ltb}
use Rattle.std.proofs.lemmas.Bool.Decides.{nat_tests}
use Rattle.grammars.specs.Grammar.{Grammar, End, begins, head_or}
use Rattle.grammars.specs.Reading.{Out, chain, read}
use Rattle.grammars.proofs.Choices.{on_stop}
use Rattle.grammars.proofs.Complete.{goes, stops}
use Rattle.grammars.proofs.Rounds.{many_go, many_end, chain_pure, not_longer}
use Rattle.sml_lexer.specs.declared.lexeme.Lexeme.{Lexeme}
use Rattle.sml_trees.specs.declared.full_pat.FullPat.{FullPat}
use Rattle.sml_trees.specs.declared.name.At.{At}
use Rattle.phrase_reading.specs.Names.{either, beginning}
use Rattle.clause_heads.specs.Heads.{atom, argument, takes_more, arguments_from, ends_or_goes_on, too_high, behind_run, closed_head, pair_run, pair_behind, pair_pattern, is_named, parens_behind, parens_pattern}
use Rattle.core_patterns.specs.Patterns.{starts_atpat, operand_height, start, goes_on, whole_run, typed, run_step, run_part, run_of, run_from, run_rest, behind_operand, pat_level}
use Rattle.core_types.specs.Types.{ty}
use Rattle.core_patterns.specs.declared.operand.Run.{Run}
use Rattle.clause_heads.specs.declared.paren_head.Left.{Left}
use Rattle.clause_heads.specs.declared.paren_head.Pair.{Pair}
use Rattle.infix_names.specs.Fixities.{Fixities}
use Rattle.phrase_reading.proofs.Steps.{lower_go}
use Rattle.phrase_reading.specs.Sized.{more, lower}
use Rattle.phrase_reading.specs.Words.{g}
use Rattle.clause_heads.specs.declared.heads.Wanted.{Wanted}
use Rattle.phrase_reading.specs.declared.tall.Tall.{Tall}

both : (a b : Bool) → a && b ≡ true → b ≡ true
both true b h = h
both false b h = absurd (cc)

-- an argument is an atomic pattern, behind its first lexeme
argument_go : (n : ℕ) (fs : Fixities) (x : Lexeme) (xs : List Lexeme) → starts_atpat fs x ≡ true
    → read (argument n fs) (x ∷ xs) ≡ read (atom n fs x) xs
unfolding argument beginning
argument_go n fs x xs h =
    ap (λ (o : Out Lexeme Lexeme). chain o (λ y rest. read (atom n fs y) rest))
    (goes (starts_atpat fs x) (Out.out (End.whole x) xs) (Out.out End.refused (x ∷ xs)) h)

-- one more argument, and then further ones
pub arguments_go : (n : ℕ) (fs : Fixities) (wanted : Wanted) (before : ℕ) (found : Tall (List FullPat))
    (xs : List Lexeme) → begins (takes_more fs wanted (before + length found.tree)) (head_or xs None) ≡ true
    → read (arguments_from n fs wanted before found) xs
    ≡ chain (read (argument n fs) xs) (λ next rest. read (arguments_from n fs wanted before (more found next)) rest)
unfolding arguments_from
arguments_go n fs wanted before found [] h = absurd (cc)
arguments_go n fs wanted before found (x ∷ xs) h =
    many_go (λ found x. takes_more fs wanted (before + length found.tree) x)
    (λ found x. Grammar.bind (atom n fs x) (λ next. Grammar.pure (more found next))) found x xs h
    ∙ chain_pure (read (atom n fs x) xs) (more found) (λ next rest. read (arguments_from n fs wanted before next) rest)
    ∙ ap (λ (o : Out Lexeme (Tall FullPat)).
    chain o (λ next rest. read (arguments_from n fs wanted before (more found next)) rest))
    (sym (argument_go n fs x xs (both _ (starts_atpat fs x) h)))

-- no more where no argument stands
pub arguments_end : (n : ℕ) (fs : Fixities) (wanted : Wanted) (before : ℕ) (found : Tall (List FullPat))
    (xs : List Lexeme) → begins (takes_more fs wanted (before + length found.tree)) (head_or xs None) ≡ false
    → read (arguments_from n fs wanted before found) xs ≡ Out.out (End.whole found) xs
unfolding arguments_from
arguments_end n fs wanted before found xs h =
    many_end (λ found x. takes_more fs wanted (before + length found.tree) x)
    (λ found x. Grammar.bind (atom n fs x) (λ next. Grammar.pure (more found next))) found xs h

-- an argument takes a lexeme
pub argument_less : (n : ℕ) (fs : Fixities) (wanted : Wanted) (args : ℕ) (a : Tall FullPat) (xs rest : List Lexeme)
    → begins (takes_more fs wanted args) (head_or xs None) ≡ true
    → read (argument n fs) xs ≡ Out.out (End.whole a) rest → length rest < length xs
argument_less n fs wanted args a [] rest h is = absurd (cc)
argument_less n fs wanted args a (x ∷ xs) rest h is =
    let left = not_longer (atom n fs x) (End.whole a) xs rest (sym (argument_go n fs x xs (both _ (starts_atpat fs x) h)) ∙ is) in
    omega (arith, left)

pub ruleset arguments_steps = (arguments_go, arguments_end, argument_less)

-- what goes on with something too high, or closes it, is too deep
pub too_high_go : {A : Type 0} (fs : Fixities) (run : Run) (named : Bool) (xs : List Lexeme)
    → begins (ends_or_goes_on fs run named) (head_or xs None) ≡ true
    → read (too_high {A = A} fs run named) xs ≡ Out.out End.deep (drop 1 xs)
unfolding too_high
too_high_go fs run named [] h = absurd (cc)
too_high_go fs run named (x ∷ xs) h = goes (ends_or_goes_on fs run named x) _ _ h

pub too_high_stop : {A : Type 0} (fs : Fixities) (run : Run) (named : Bool) (xs : List Lexeme)
    → begins (ends_or_goes_on fs run named) (head_or xs None) ≡ false
    → read (too_high {A = A} fs run named) xs ≡ Out.out End.refused xs
unfolding too_high
too_high_stop fs run named [] h = refl
too_high_stop fs run named (x ∷ xs) h = stops (ends_or_goes_on fs run named x) _ _ h

pub ruleset too_high_steps = (too_high_go, too_high_stop)

-- what leaves no level for the node above it is too deep
pub lower_too_high : {A B : Type 0} (n : ℕ) (left : Tall A) (behind : g B) (xs : List Lexeme) → n ≤ left.height
    → read (lower n left behind) xs ≡ Out.out End.deep xs
lower_too_high n left behind xs h = stops (nat_lt left.height n) _ _ (grind (arith, nat_tests))

-- a run that goes on is read as runs are
pub behind_run_go : (fs : Fixities) (levels : ℕ) (first : At) (run : Run) (xs : List Lexeme)
    → begins (goes_on fs run) (head_or xs None) ≡ true
    → read (behind_run fs levels first run) xs
    ≡ read (run_of fs levels (ty (levels - 1)) (pat_level fs (levels - 1)) first run) xs
unfolding behind_run run_of run_part
behind_run_go fs levels first run [] h = absurd (cc)
behind_run_go fs levels first run (x ∷ xs) h =
    let tys = ty (levels - 1) in
    let below = pat_level fs (levels - 1) in
    goes (goes_on fs run x) (read (run_from fs levels tys below first run x) xs)
    (read (typed levels tys first (whole_run first run)) (x ∷ xs)) h
    ∙ sym (ap (λ (o : Out Lexeme Run). chain o (λ more rest. read (run_rest fs levels tys below first more) rest))
    (goes (goes_on fs run x) (read (run_step fs levels below run x) xs) (Out.out End.refused (x ∷ xs)) h))

pub behind_run_end : (fs : Fixities) (levels : ℕ) (first : At) (run : Run) (xs : List Lexeme)
    → begins (goes_on fs run) (head_or xs None) ≡ false
    → read (behind_run fs levels first run) xs ≡ read (typed levels (ty (levels - 1)) first (whole_run first run)) xs
unfolding behind_run
behind_run_end fs levels first run xs h =
    on_stop (goes_on fs run) (run_from fs levels (ty (levels - 1)) (pat_level fs (levels - 1)) first run)
    (typed levels (ty (levels - 1)) first (whole_run first run)) xs h

pub ruleset behind_run_steps = (behind_run_go, behind_run_end)

by_true : {A : Type 0} (b : Bool) (go or : g A) (xs : List Lexeme) → b ≡ true → read (either b go or) xs ≡ read go xs
by_true true go or xs h = refl
by_true false go or xs h = absurd (cc)

by_false : {A : Type 0} (b : Bool) (go or : g A) (xs : List Lexeme) → b ≡ false → read (either b go or) xs ≡ read or xs
by_false true go or xs h = absurd (cc)
by_false false go or xs h = refl

-- where a level is left for the parentheses, the pattern goes on
pub pair_behind_go : (n : ℕ) (fs : Fixities) (wanted : Wanted) (place : At) (pair : Pair) (xs : List Lexeme)
    → (pair_run pair).height + 1 < n
    → read (pair_behind n fs wanted place pair) xs
    ≡ chain (read (behind_run fs (n - 1) pair.first (pair_run pair)) xs)
    (λ inner rest. read (closed_head n fs wanted place inner) rest)
unfolding pair_behind pair_pattern
pair_behind_go n fs wanted place pair xs h =
    by_true (nat_lt ((pair_run pair).height + 1) n) _ _ xs (lt-ltb ((pair_run pair).height + 1) n h)

pub pair_behind_high : (n : ℕ) (fs : Fixities) (wanted : Wanted) (place : At) (pair : Pair) (xs : List Lexeme)
    → n ≤ (pair_run pair).height + 1
    → read (pair_behind n fs wanted place pair) xs ≡ read (too_high fs (pair_run pair) false) xs
unfolding pair_behind
pair_behind_high n fs wanted place pair xs h =
    by_false (nat_lt ((pair_run pair).height + 1) n) _ _ xs (grind (arith, nat_tests))

pub ruleset pair_behind_steps = (pair_behind_go, pair_behind_high)

pub parens_behind_go : (n : ℕ) (fs : Fixities) (wanted : Wanted) (place : At) (left : Left) (xs : List Lexeme)
    → max (operand_height left.operand) 1 < n
    → read (parens_behind n fs wanted place left) xs
    ≡ chain (read (behind_operand fs (n - 1) (ty (n - 1 - 1)) (pat_level fs (n - 1 - 1)) left.first left.operand) xs)
    (λ inner rest. read (closed_head n fs wanted place inner) rest)
unfolding parens_behind parens_pattern
parens_behind_go n fs wanted place left xs h =
    by_true (nat_lt (max (operand_height left.operand) 1) n) _ _ xs (lt-ltb (max (operand_height left.operand) 1) n h)

pub parens_behind_high : (n : ℕ) (fs : Fixities) (wanted : Wanted) (place : At) (left : Left) (xs : List Lexeme)
    → n ≤ max (operand_height left.operand) 1
    → read (parens_behind n fs wanted place left) xs
    ≡ read (too_high fs (start left.first left.operand) (is_named left.operand)) xs
unfolding parens_behind
parens_behind_high n fs wanted place left xs h =
    by_false (nat_lt (max (operand_height left.operand) 1) n) _ _ xs (grind (arith, nat_tests))

pub ruleset parens_behind_steps = (parens_behind_go, parens_behind_high)

pub ruleset lower_steps = (lower_go, lower_too_high)
