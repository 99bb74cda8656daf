-- How declarations are read, a step at a time.
use Rattle.sml_trees.specs.declared.full_exp.FullDec.{FullDec}
use Rattle.std.proofs.Common.{◌≡◌, ℕ, zero, suc, ◌-◌, ◌<◌, ◌∷◌, [], List, Some, None, Bool, true, false, refl, sym, ap, subst, ◌∙◌, drop, length, arith, nat_lt}
use Rattle.std.proofs.lemmas.Bool.{lt-ltb}
use Rattle.grammars.specs.Grammar.{Grammar, End, begins, head_or}
use Rattle.grammars.specs.Reading.{Out, chain, read}
use Rattle.grammars.proofs.Complete.{goes, stops}
use Rattle.grammars.proofs.Rounds.{many_go, many_end, not_longer}
use Rattle.sml_lexer.specs.declared.lexeme.Lexeme.{Lexeme}
use Rattle.core_expressions.specs.Declarations.{dec_word, decs_from, round, one_round, starts_round, next_round}
use Rattle.infix_names.specs.Fixities.{Fixities}
use Rattle.core_bindings.specs.Decs.{Decs}
use Rattle.core_expressions.specs.Level.{Level}
use Rattle.phrase_reading.specs.Sized.{opened}
use Rattle.core_expressions.specs.Levels.{level, below}
use Rattle.phrase_reading.specs.Words.{g, word, at}
use Rattle.infix_names.proofs.Kept.{kept_then}

-- ---- levels

-- behind a lexeme that opens a level, where one is left
pub opened_go : {A : Type 0} (n : ℕ) (behind : g A) (xs : List Lexeme) → 0 < n → read (opened n behind) xs ≡ read behind xs
opened_go n behind xs h = goes (nat_lt 0 n) _ _ (lt-ltb 0 n h)

-- where none is left, it is too deep
pub opened_deep : {A : Type 0} (n : ℕ) (behind : g A) (xs : List Lexeme) → n ≡ 0
    → read (opened n behind) xs ≡ Out.out End.deep xs
opened_deep zero behind xs h = refl
opened_deep (suc n) behind xs h = absurd (cc)

-- one level less than some is the level below
pub below_less : (n : ℕ) → 0 < n → below n ≡ level (n - 1)
unfolding below
below_less zero h = absurd (omega arith)
below_less (suc m) h = let e : suc m - 1 ≡ m = omega arith in rw e refl

pub ruleset level_steps = (below_less)

pub ruleset opened_steps = (opened_go, opened_deep, below_less)

-- a declaration behind its first word, one level down
pub dec_go : (n : ℕ) (fs : Fixities) (x : Lexeme) → 0 < n
    → (level n).dec fs x ≡ dec_word (n - 1) (level (n - 1)) fs (at x) (word x)
dec_go zero fs x h = absurd (omega arith)
dec_go (suc m) fs x h =
    let e : suc m - 1 ≡ m = omega arith in
    let b : below (suc m) ≡ level m = subst (λ (k : ℕ). below (suc m) ≡ level k) e (below_less (suc m) (omega arith)) in
    rw (e, b) refl

pub dec_deep : (n : ℕ) (fs : Fixities) (x : Lexeme) (xs : List Lexeme) → n ≡ 0
    → read ((level n).dec fs x) xs ≡ Out.out End.deep xs
dec_deep zero fs x xs h = refl
dec_deep (suc n) fs x xs h = absurd (cc)

pub ruleset dec_steps = (dec_go, dec_deep)

-- ---- sequences

-- a round is read behind its lexeme
pub one_round_go : (n : ℕ) (parts : Level) (found : Decs FullDec) (x : Lexeme) (xs : List Lexeme)
    → next_round (head_or xs None) ≡ Some x → read (one_round n parts found) xs ≡ read (round n parts found x) (drop 1 xs)
unfolding one_round
one_round_go n parts found x [] h = absurd (cc)
one_round_go n parts found x (y ∷ xs) h = by_test (starts_round y) refl h
  where
    by_test : (b : Bool) → starts_round y ≡ b → next_round (Some y) ≡ Some x
        → read (Grammar.on starts_round (round n parts found) Grammar.refuse) (y ∷ xs) ≡ read (round n parts found x) xs
    by_test true fact h =
        let same : y ≡ x = cc in
        goes (starts_round y) _ _ fact ∙ ap (λ (z : Lexeme). read (round n parts found z) xs) same
    by_test false fact h = absurd (cc)

pub one_round_stop : (n : ℕ) (parts : Level) (found : Decs FullDec) (xs : List Lexeme) → next_round (head_or xs None) ≡ None
    → read (one_round n parts found) xs ≡ Out.out End.refused xs
unfolding one_round
one_round_stop n parts found [] h = refl
one_round_stop n parts found (y ∷ xs) h = by_test (starts_round y) refl h
  where
    by_test : (b : Bool) → starts_round y ≡ b → next_round (Some y) ≡ None
        → read (Grammar.on starts_round (round n parts found) Grammar.refuse) (y ∷ xs) ≡ Out.out End.refused (y ∷ xs)
    by_test true fact h = absurd (cc)
    by_test false fact h = stops (starts_round y) _ _ fact

pub ruleset round_steps = (one_round_go, one_round_stop)

pub decs_go : (n : ℕ) (parts : Level) (found : Decs FullDec) (xs : List Lexeme) → begins starts_round (head_or xs None) ≡ true
    → read (decs_from n parts found) xs
    ≡ chain (read (one_round n parts found) xs) (λ next rest. read (decs_from n parts next) rest)
unfolding decs_from one_round
decs_go n parts found [] h = absurd (cc)
decs_go n parts found (x ∷ xs) h =
    many_go (λ _ x. starts_round x) (round n parts) found x xs h
    ∙ sym (ap (λ (o : Out Lexeme (Decs FullDec)). chain o (λ next rest. read (decs_from n parts next) rest))
    (goes (starts_round x) (read (round n parts found x) xs) (Out.out End.refused (x ∷ xs)) h))

pub decs_end : (n : ℕ) (parts : Level) (found : Decs FullDec) (xs : List Lexeme) → begins starts_round (head_or xs None) ≡ false
    → read (decs_from n parts found) xs ≡ Out.out (End.whole found) xs
unfolding decs_from
decs_end n parts found xs h = many_end (λ _ x. starts_round x) (round n parts) found xs h

-- a round takes a lexeme
pub one_round_less : (n : ℕ) (parts : Level) (found all : Decs FullDec) (xs rest : List Lexeme)
    → begins starts_round (head_or xs None) ≡ true
    → read (one_round n parts found) xs ≡ Out.out (End.whole all) rest → length rest < length xs
unfolding one_round
one_round_less n parts found all [] rest h is = absurd (cc)
one_round_less n parts found all (x ∷ xs) rest h is =
    let left = not_longer (round n parts found x) (End.whole all) xs rest
    (sym (goes (starts_round x) (read (round n parts found x) xs) (Out.out End.refused (x ∷ xs)) h) ∙ is) in
    omega (arith, left)

pub ruleset decs_steps = (decs_go, decs_end, one_round_less, kept_then)
