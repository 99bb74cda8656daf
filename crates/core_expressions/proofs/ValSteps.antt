-- How bindings of values are read, a step at a time.
use Rattle.std.proofs.Common.{◌≡◌, ℕ, zero, suc, ◌+◌, ◌-◌, ◌<◌, ◌∷◌, [], List, None, Some, Bool, true, false, refl, ap, ◌∙◌, ◌≤◌, drop, arith}
use Rattle.std.proofs.lemmas.Bool.{lt-ltb}
use Rattle.phrase_reading.specs.Names.{either, marked, if_marked}
use Rattle.core_expressions.specs.Expressions.{fn_of}
use Rattle.core_expressions.specs.Levels.{below, level}
use Rattle.phrase_reading.specs.declared.tall.Tall.{Tall}
use Rattle.phrase_reading.proofs.NameSteps.{marked_go, marked_stop}
use Rattle.core_expressions.proofs.DecSteps.{opened_go, opened_deep, below_less}
use Rattle.sml_trees.specs.declared.full_exp.FullExp.{FullExp}
use Rattle.grammars.specs.Grammar.{Grammar, End, begins, head_or}
use Rattle.grammars.specs.Reading.{Out, chain, read}
use Rattle.grammars.proofs.Rounds.{many_go, many_end, chain_pure, not_longer}
use Rattle.sml_lexer.specs.declared.lexeme.Lexeme.{Lexeme}
use Rattle.core_expressions.specs.Values.{fn_exp_of, fn_parens, right_side, recs_from, val_bind, val_binds_from, with_bind}
use Rattle.infix_names.specs.Fixities.{Fixities}
use Rattle.core_expressions.specs.Level.{Level}
use Rattle.phrase_reading.specs.Sized.{opened}
use Rattle.phrase_reading.specs.Words.{g, is, at}
use Rattle.core_expressions.specs.declared.binds.Binds.{Binds}
use Rattle.sml_lexer.specs.declared.words.Word.TheVariants as w
use Rattle.phrase_reading.proofs.Steps.{one_less}

pub recs_go : (recs : ℕ) (xs : List Lexeme) → begins (is w.Rec) (head_or xs None) ≡ true
    → read (recs_from recs) xs ≡ read (recs_from (recs + 1)) (drop 1 xs)
unfolding recs_from
recs_go recs [] h = absurd (cc)
recs_go recs (x ∷ xs) h = many_go (λ _ x. is w.Rec x) (λ recs _. Grammar.pure (recs + 1)) recs x xs h

pub recs_end : (recs : ℕ) (xs : List Lexeme) → begins (is w.Rec) (head_or xs None) ≡ false
    → read (recs_from recs) xs ≡ Out.out (End.whole recs) xs
unfolding recs_from
recs_end recs xs h = many_end (λ _ x. is w.Rec x) (λ recs _. Grammar.pure (recs + 1)) recs xs h

pub ruleset recs_steps = (recs_go, recs_end, one_less)

pub binds_go : (parts : Level) (fs : Fixities) (binds : Binds) (xs : List Lexeme)
    → begins (is w.And) (head_or xs None) ≡ true
    → read (val_binds_from parts fs binds) xs
    ≡ chain (read (val_bind parts fs binds.recs) (drop 1 xs)) (λ next rest. read (val_binds_from parts fs (with_bind binds next)) rest)
unfolding val_binds_from
binds_go parts fs binds [] h = absurd (cc)
binds_go parts fs binds (x ∷ xs) h =
    many_go (λ _ x. is w.And x)
    (λ binds _. Grammar.bind (val_bind parts fs binds.recs) (λ next. Grammar.pure (with_bind binds next))) binds x xs h
    ∙ chain_pure (read (val_bind parts fs binds.recs) xs) (with_bind binds) (λ all rest. read (val_binds_from parts fs all) rest)

pub binds_end : (parts : Level) (fs : Fixities) (binds : Binds) (xs : List Lexeme)
    → begins (is w.And) (head_or xs None) ≡ false → read (val_binds_from parts fs binds) xs ≡ Out.out (End.whole binds) xs
unfolding val_binds_from
binds_end parts fs binds xs h =
    many_end (λ _ x. is w.And x)
    (λ binds _. Grammar.bind (val_bind parts fs binds.recs) (λ next. Grammar.pure (with_bind binds next))) binds xs h

pub ruleset binds_steps = (binds_go, binds_end, not_longer, one_less)

-- behind some `rec` a function is asked for
pub right_rec : (parts : Level) (fs : Fixities) (recs : ℕ) → 0 < recs → right_side parts fs recs ≡ parts.fn_exp fs
right_rec parts fs recs h = ap (λ (b : Bool). either b (parts.fn_exp fs) (parts.exp fs)) (lt-ltb 0 recs h)

pub right_plain : (parts : Level) (fs : Fixities) (recs : ℕ) → recs ≤ 0 → right_side parts fs recs ≡ parts.exp fs
right_plain parts fs zero h = refl
right_plain parts fs (suc recs) h = absurd (omega arith)

pub ruleset right_steps = (right_rec, right_plain)

-- ---- the right sides of `rec`

-- what begins with a parenthesis, where no `fn` stands
abbrev other_fn : ℕ → Fixities → g (Tall FullExp)
other_fn n fs = if_marked w.Open (λ x. opened n (fn_parens n (below n) fs (at x))) Grammar.refuse

pub fn_go : (n : ℕ) (fs : Fixities) (x : Lexeme) (xs : List Lexeme) → marked w.Fn (head_or xs None) ≡ Some x → 0 < n
    → read ((level n).fn_exp fs) xs ≡ read (fn_of (level (n - 1)) fs (at x)) (drop 1 xs)
unfolding fn_exp_of
fn_go n fs x xs h some =
    marked_go w.Fn (λ x. opened n (fn_of (below n) fs (at x))) (other_fn n fs) x xs h
    ∙ opened_go n (fn_of (below n) fs (at x)) (drop 1 xs) some
    ∙ ap (λ (l : Level). read (fn_of l fs (at x)) (drop 1 xs)) (below_less n some)

pub fn_deep : (n : ℕ) (fs : Fixities) (x : Lexeme) (xs : List Lexeme) → marked w.Fn (head_or xs None) ≡ Some x → n ≡ 0
    → read ((level n).fn_exp fs) xs ≡ Out.out End.deep (drop 1 xs)
unfolding fn_exp_of
fn_deep n fs x xs h none =
    marked_go w.Fn (λ x. opened n (fn_of (below n) fs (at x))) (other_fn n fs) x xs h
    ∙ opened_deep n (fn_of (below n) fs (at x)) (drop 1 xs) none

pub fn_parens_go : (n : ℕ) (fs : Fixities) (x : Lexeme) (xs : List Lexeme) → marked w.Fn (head_or xs None) ≡ None
    → marked w.Open (head_or xs None) ≡ Some x → 0 < n
    → read ((level n).fn_exp fs) xs ≡ read (fn_parens n (below n) fs (at x)) (drop 1 xs)
unfolding fn_exp_of
fn_parens_go n fs x xs other h some =
    marked_stop w.Fn (λ x. opened n (fn_of (below n) fs (at x))) (other_fn n fs) xs other
    ∙ marked_go w.Open (λ x. opened n (fn_parens n (below n) fs (at x))) Grammar.refuse x xs h
    ∙ opened_go n (fn_parens n (below n) fs (at x)) (drop 1 xs) some

pub fn_parens_deep : (n : ℕ) (fs : Fixities) (x : Lexeme) (xs : List Lexeme) → marked w.Fn (head_or xs None) ≡ None
    → marked w.Open (head_or xs None) ≡ Some x → n ≡ 0 → read ((level n).fn_exp fs) xs ≡ Out.out End.deep (drop 1 xs)
unfolding fn_exp_of
fn_parens_deep n fs x xs other h none =
    marked_stop w.Fn (λ x. opened n (fn_of (below n) fs (at x))) (other_fn n fs) xs other
    ∙ marked_go w.Open (λ x. opened n (fn_parens n (below n) fs (at x))) Grammar.refuse x xs h
    ∙ opened_deep n (fn_parens n (below n) fs (at x)) (drop 1 xs) none

pub fn_stop : (n : ℕ) (fs : Fixities) (xs : List Lexeme) → marked w.Fn (head_or xs None) ≡ None
    → marked w.Open (head_or xs None) ≡ None → read ((level n).fn_exp fs) xs ≡ Out.out End.refused xs
unfolding fn_exp_of
fn_stop n fs xs other none =
    marked_stop w.Fn (λ x. opened n (fn_of (below n) fs (at x))) (other_fn n fs) xs other
    ∙ marked_stop w.Open (λ x. opened n (fn_parens n (below n) fs (at x))) Grammar.refuse xs none

pub ruleset fn_exp_steps = (fn_go, fn_deep, fn_parens_go, fn_parens_deep, fn_stop)
