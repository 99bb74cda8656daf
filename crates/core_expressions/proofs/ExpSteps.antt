-- How expressions are read, a step at a time: the equations that code is proved with.
use Rattle.std.proofs.Common.{◌≡◌, ℕ, ◌+◌, ◌-◌, ◌<◌, ◌≤◌, List, [], ◌∷◌, Option, Some, None, Result, Ok, Err, Bool, true, false, refl, ap, sym, subst, ◌∙◌, drop, length, arith, add-one, nat_lt}
use Rattle.std.proofs.lemmas.Bool.{lt-ltb, le-ltb}
use Rattle.grammars.specs.Grammar.{End, begins, head_or}
use Rattle.grammars.specs.Reading.{Out, chain as then, read}
use Rattle.grammars.proofs.Complete.{goes, stops}
use Rattle.grammars.proofs.Rounds.{many_go, many_end, not_longer}
use Rattle.phrase_reading.proofs.Steps.{one_less}
use Rattle.sml_lexer.specs.declared.lexeme.Lexeme.{Lexeme}
use Rattle.sml_trees.specs.declared.full_exp.FullExp.{FullExp}
use Rattle.sml_trees.specs.declared.full_exp.FullExp.TheVariants as e
use Rattle.sml_trees.specs.declared.full_exp.FullRule.{FullRule}
use Rattle.sml_trees.specs.declared.full_pat.Fixity.{Fixity}
use Rattle.sml_trees.specs.declared.full_ty.FullTy.{FullTy}
use Rattle.sml_trees.specs.declared.name.At.{At}
use Rattle.core_expressions.specs.Expressions.{record_fields, record_exp, tuple_exp, sequence_exp, paren_exp, parens_from, parens, bracket_items, bracket, atexp_after, atexp_of, atom, behind_operator, step_by, step_with, step, one_step, steps, whole_run, run_with, run_from, constraint, constraints, typed_of, rules_of, prefix_after, operand_by, operand_after, side, beside, chained, handle_exp, handled}
use Rattle.expression_parts.specs.ExpNodes.{with_operator}
use Rattle.expression_parts.specs.ExpNodes.{chain_word, link}
use Rattle.expression_parts.specs.ExpStarts.{starts_prefix, infix_name, goes_on}
use Rattle.infix_names.specs.Fixities.{Fixities, fixity_of}
use Rattle.std.specs.Result.{IsErrAnd}
use Rattle.core_expressions.specs.Level.{Level}
use Rattle.phrase_reading.specs.Reads.{Reads, Stops}
use Rattle.phrase_reading.specs.declared.stop.Stop.{Stop}
use Rattle.phrase_reading.specs.declared.stop.Stop.TheVariants as stop
use Rattle.core_expressions.specs.Levels.{below, level}
use Rattle.phrase_reading.specs.Sized.{leaf, over_two, more}
use Rattle.phrase_reading.specs.Words.{g, is, word, named}
use Rattle.expression_parts.specs.declared.chain.Chain.{Chain}
use Rattle.expression_parts.specs.declared.runs.Run.{Run}
use Rattle.phrase_reading.specs.declared.tall.Tall.{Tall}
use Rattle.sml_lexer.specs.declared.words.Word.TheVariants as w
use Rattle.phrase_reading.proofs.NameSteps.{first_go}

-- ---- levels

-- One level less than some is the level below.
pub below_some : (n : ℕ) → below (n + 1) ≡ level n
unfolding below
below_some n = rw add-one refl

-- One level less than more than none is the level below.
pub below_less : (m n : ℕ) → m < n → below n ≡ level (n - 1)
below_less m n h =
    let more : n ≡ n - 1 + 1 = omega arith in
    subst (λ (k : ℕ). below k ≡ level (n - 1)) (sym more) (below_some (n - 1))

-- ---- atomic expressions

module _ (parts : Level) (fs : Fixities) (place : At) where
  pub record_none : (xs : List Lexeme) → begins (is w.CloseBrace) (head_or xs None) ≡ true
      → read (record_exp parts fs place) xs ≡ Out.out (End.whole (leaf (e.Record [] place))) (drop 1 xs)
  unfolding record_exp
  record_none [] h = absurd (cc)
  record_none (x ∷ xs) h = goes (is w.CloseBrace x) _ _ h

  pub record_some : (xs : List Lexeme) → begins (is w.CloseBrace) (head_or xs None) ≡ false
      → read (record_exp parts fs place) xs ≡ read (record_fields parts fs place) xs
  unfolding record_exp
  record_some [] h = refl
  record_some (x ∷ xs) h = stops (is w.CloseBrace x) _ _ h

  pub parens_none : (xs : List Lexeme) → begins (is w.Close) (head_or xs None) ≡ true
      → read (parens parts fs place) xs ≡ Out.out (End.whole (leaf (e.Unit place))) (drop 1 xs)
  unfolding parens
  parens_none [] h = absurd (cc)
  parens_none (x ∷ xs) h = goes (is w.Close x) _ _ h

  pub parens_some : (xs : List Lexeme) → begins (is w.Close) (head_or xs None) ≡ false
      → read (parens parts fs place) xs
      ≡ then (read (parts.exp fs) xs) (λ first rest. read (parens_from parts fs place first) rest)
  unfolding parens
  parens_some [] h = refl
  parens_some (x ∷ xs) h = stops (is w.Close x) _ _ h

  pub parens_tuple : (first : Tall FullExp) (xs : List Lexeme) → begins (is w.Comma) (head_or xs None) ≡ true
      → read (parens_from parts fs place first) xs ≡ read (tuple_exp parts fs place first) (drop 1 xs)
  unfolding parens_from
  parens_tuple first [] h = absurd (cc)
  parens_tuple first (x ∷ xs) h = goes (is w.Comma x) _ _ h

  pub parens_sequence : (first : Tall FullExp) (xs : List Lexeme) → begins (is w.Comma) (head_or xs None) ≡ false
      → begins (is w.Semicolon) (head_or xs None) ≡ true
      → read (parens_from parts fs place first) xs ≡ read (sequence_exp parts fs place first) (drop 1 xs)
  unfolding parens_from
  parens_sequence first [] g h = absurd (cc)
  parens_sequence first (x ∷ xs) g h = stops (is w.Comma x) _ _ g ∙ goes (is w.Semicolon x) _ _ h

  pub parens_one : (first : Tall FullExp) (xs : List Lexeme) → begins (is w.Comma) (head_or xs None) ≡ false
      → begins (is w.Semicolon) (head_or xs None) ≡ false
      → read (parens_from parts fs place first) xs ≡ read (paren_exp place first) xs
  unfolding parens_from
  parens_one first [] g h = refl
  parens_one first (x ∷ xs) g h = stops (is w.Comma x) _ _ g ∙ stops (is w.Semicolon x) _ _ h

  pub bracket_none : (xs : List Lexeme) → begins (is w.CloseBracket) (head_or xs None) ≡ true
      → read (bracket parts fs place) xs ≡ Out.out (End.whole (leaf (e.List [] place))) (drop 1 xs)
  unfolding bracket
  bracket_none [] h = absurd (cc)
  bracket_none (x ∷ xs) h = goes (is w.CloseBracket x) _ _ h

  pub bracket_some : (xs : List Lexeme) → begins (is w.CloseBracket) (head_or xs None) ≡ false
      → read (bracket parts fs place) xs ≡ read (bracket_items parts fs place) xs
  unfolding bracket
  bracket_some [] h = refl
  bracket_some (x ∷ xs) h = stops (is w.CloseBracket x) _ _ h

pub ruleset record_steps = (record_none, record_some)

pub ruleset parens_steps = (parens_none, parens_some)

pub ruleset parens_from_steps = (parens_tuple, parens_sequence, parens_one)

pub ruleset bracket_steps = (bracket_none, bracket_some)

-- An atomic expression is read over the level below, where a level is left.
pub atexp_go : (n : ℕ) (fs : Fixities) (x : Lexeme) (xs : List Lexeme) → 0 < n
    → read (atexp_of n (below n) fs x) xs ≡ read (atexp_after (level (n - 1)) fs x) xs
unfolding atexp_of
atexp_go n fs x xs h =
    goes (nat_lt 0 n) _ _ (lt-ltb 0 n h) ∙ ap (λ (b : Level). read (atexp_after b fs x) xs) (below_less 0 n h)

-- An atomic expression is too deep where no level is left.
pub atexp_deep : (n : ℕ) (b : Level) (fs : Fixities) (x : Lexeme) (xs : List Lexeme) → n ≡ 0
    → read (atexp_of n b fs x) xs ≡ Out.out End.deep xs
unfolding atexp_of
atexp_deep n b fs x xs h = rw h refl

pub ruleset atexp_steps = (atexp_go, atexp_deep)

-- ---- runs

module _ (parts : Level) (fs : Fixities) (run : Run) (x : Lexeme) (xs : List Lexeme) where
  -- A lexeme that is no name is read as an atomic expression.
  pub step_other : infix_name x ≡ None → read (step parts fs run x) xs ≡ read (atom parts fs run x) xs
  unfolding step
  step_other h = ap (λ (found : Option (List ℕ)). read (step_with parts fs run x found) xs) h

  -- A name that isn't infix is read as an atomic expression.
  pub step_name : (name : List ℕ) → infix_name x ≡ Some name → fixity_of fs name ≡ None
      → read (step parts fs run x) xs ≡ read (atom parts fs run x) xs
  unfolding step
  step_name name h is =
      ap (λ (found : Option (List ℕ)). read (step_with parts fs run x found) xs) h
      ∙ ap (λ (found : Option Fixity). read (step_by parts fs run x name found) xs) is

  -- A name that is infix is read with what stands behind it.
  pub step_operator : (name : List ℕ) (f : Fixity) → infix_name x ≡ Some name → fixity_of fs name ≡ Some f
      → read (step parts fs run x) xs ≡ read (behind_operator parts fs (with_operator run (named x name) f)) xs
  unfolding step
  step_operator name f h is =
      ap (λ (found : Option (List ℕ)). read (step_with parts fs run x found) xs) h
      ∙ ap (λ (found : Option Fixity). read (step_by parts fs run x name found) xs) is

pub ruleset step_steps = (step_other, step_name, step_operator)

-- One step takes a lexeme with which the run goes on.
one_step_go : (parts : Level) (fs : Fixities) (run : Run) (x : Lexeme) (xs : List Lexeme) → goes_on fs run.ops x ≡ true
    → read (one_step parts fs run) (x ∷ xs) ≡ read (step parts fs run x) xs
unfolding one_step
one_step_go parts fs run x xs h =
    ap (λ (o : Out Lexeme Lexeme). then o (λ first rest. read (step parts fs run first) rest))
    (first_go (goes_on fs run.ops) x (x ∷ xs) refl h)

-- A run goes on by one step, and then more of them.
pub steps_go : (parts : Level) (fs : Fixities) (run : Run) (xs : List Lexeme)
    → begins (goes_on fs run.ops) (head_or xs None) ≡ true
    → read (steps parts fs run) xs
    ≡ then (read (one_step parts fs run) xs) (λ more rest. read (steps parts fs more) rest)
unfolding steps
steps_go parts fs run [] h = absurd (cc)
steps_go parts fs run (x ∷ xs) h =
    many_go (λ (run : Run) (x : Lexeme). goes_on fs run.ops x) (λ run x. step parts fs run x) run x xs h
    ∙ ap (λ (o : Out Lexeme Run). then o (λ more rest. read (steps parts fs more) rest))
    (sym (one_step_go parts fs run x xs h))

-- No more of a run where it doesn't go on.
pub steps_end : (parts : Level) (fs : Fixities) (run : Run) (xs : List Lexeme)
    → begins (goes_on fs run.ops) (head_or xs None) ≡ false
    → read (steps parts fs run) xs ≡ Out.out (End.whole run) xs
unfolding steps
steps_end parts fs run xs h =
    many_end (λ (run : Run) (x : Lexeme). goes_on fs run.ops x) (λ run x. step parts fs run x) run xs h

-- A step leaves less than there was.
pub step_less : (parts : Level) (fs : Fixities) (run more : Run) (xs rest : List Lexeme)
    → begins (goes_on fs run.ops) (head_or xs None) ≡ true
    → read (one_step parts fs run) xs ≡ Out.out (End.whole more) rest → length rest < length xs
step_less parts fs run more [] rest h whole = absurd (cc)
step_less parts fs run more (x ∷ xs) rest h whole =
    let left = not_longer (step parts fs run x) (End.whole more) xs rest
    (sym (one_step_go parts fs run x xs h) ∙ whole) in
    omega (arith, left)

-- One more step, over infix status that is the same, leaves what is to be read as it was.
pub steps_kept : (parts : Level) (fs held : Fixities) (run more : Run) (xs rest : List Lexeme) (target : Out Lexeme Run)
    → held ≡ fs → begins (goes_on held run.ops) (head_or xs None) ≡ true
    → read (one_step parts held run) xs ≡ Out.out (End.whole more) rest → read (steps parts fs run) xs ≡ target
    → read (steps parts fs more) rest ≡ target
steps_kept parts fs held run more xs rest target same sees is h =
    let seen = subst (λ (f : Fixities). begins (goes_on f run.ops) (head_or xs None) ≡ true) same sees in
    let done = subst (λ (f : Fixities). read (one_step parts f run) xs ≡ Out.out (End.whole more) rest) same is in
    sym (steps_go parts fs run xs seen
    ∙ ap (λ (o : Out Lexeme Run). then o (λ all left. read (steps parts fs all) left)) done) ∙ h

-- A step that stops ends the run.
pub steps_stops : (parts : Level) (fs held : Fixities) (run : Run) (why : Stop) (xs rest : List Lexeme)
    (target : Out Lexeme Run) → held ≡ fs → begins (goes_on held run.ops) (head_or xs None) ≡ true
    → Stops why (read (one_step parts held run) xs) rest → read (steps parts fs run) xs ≡ target
    → Stops why target rest
steps_stops parts fs held run stop.Refused xs rest target same sees is h =
    let seen = subst (λ (f : Fixities). begins (goes_on f run.ops) (head_or xs None) ≡ true) same sees in
    let done = subst (λ (f : Fixities). read (one_step parts f run) xs ≡ Out.out End.refused rest) same is in
    sym h ∙ steps_go parts fs run xs seen
    ∙ ap (λ (o : Out Lexeme Run). then o (λ all left. read (steps parts fs all) left)) done
steps_stops parts fs held run stop.TooDeep xs rest target same sees is h =
    let seen = subst (λ (f : Fixities). begins (goes_on f run.ops) (head_or xs None) ≡ true) same sees in
    let done = subst (λ (f : Fixities). read (one_step parts f run) xs ≡ Out.out End.deep rest) same is in
    sym h ∙ steps_go parts fs run xs seen
    ∙ ap (λ (o : Out Lexeme Run). then o (λ all left. read (steps parts fs all) left)) done
steps_stops parts fs held run stop.NoMemory xs rest target same sees is h = tt

-- what a call answers that passes a stop on
pub passed_on : (grammar : g Run) (xs : List Lexeme) (why : Stop) (result : Result Run Stop) (left : List Lexeme)
    → IsErrAnd result (λ given. given ≡ why) → Stops why (read grammar xs) left → Reads grammar xs result left
passed_on grammar xs why (Ok value) left h stopped = absurd h
passed_on grammar xs why (Err given) left h stopped =
    subst (λ (s : Stop). Stops s (read grammar xs) left) (sym h) stopped

pub ruleset steps_steps = (steps_go, steps_end)

-- A run that goes on is read over the level below, where its first part leaves a level.
pub run_from_go : (n : ℕ) (fs : Fixities) (place : At) (first : Tall FullExp) (x : Lexeme) (xs : List Lexeme)
    → head_or xs None ≡ Some x → goes_on fs [] x ≡ true → first.height < n
    → read (run_from n (below n) fs place first) xs ≡ read (whole_run (level (n - 1)) fs place first x) (drop 1 xs)
unfolding run_from run_with
run_from_go n fs place first x [] h is room = absurd (cc)
run_from_go n fs place first x (y ∷ xs) h is room =
    let same : y ≡ x = cc in
    rw same (goes (goes_on fs [] x) _ _ is ∙ goes (nat_lt first.height n) _ _ (lt-ltb first.height n room)
    ∙ ap (λ (b : Level). read (whole_run b fs place first x) xs) (below_less first.height n room))

-- A run that goes on is too deep, where its first part leaves no level.
pub run_from_deep : (n : ℕ) (b : Level) (fs : Fixities) (place : At) (first : Tall FullExp) (x : Lexeme)
    (xs : List Lexeme) → head_or xs None ≡ Some x → goes_on fs [] x ≡ true → n ≤ first.height
    → read (run_from n b fs place first) xs ≡ Out.out End.deep (drop 1 xs)
unfolding run_from run_with
run_from_deep n b fs place first x [] h is full = absurd (cc)
run_from_deep n b fs place first x (y ∷ xs) h is full =
    let same : y ≡ x = cc in
    rw same (goes (goes_on fs [] x) _ _ is ∙ stops (nat_lt first.height n) _ _ (le-ltb first.height n full))

-- There is no run where nothing goes on.
pub run_from_stop : (n : ℕ) (b : Level) (fs : Fixities) (place : At) (first : Tall FullExp) (xs : List Lexeme)
    → begins (goes_on fs []) (head_or xs None) ≡ false
    → read (run_from n b fs place first) xs ≡ Out.out (End.whole first) xs
unfolding run_from
run_from_stop n b fs place first [] h = refl
run_from_stop n b fs place first (x ∷ xs) h = stops (goes_on fs [] x) _ _ h

pub ruleset run_from_steps = (run_from_go, run_from_deep, run_from_stop)

-- ---- constraints

pub constraint_go : (n : ℕ) (place : At) (left : Tall FullExp) (xs : List Lexeme) → left.height < n
    → read (constraint n (below n) place left) xs
    ≡ then (read (level (n - 1)).ty xs)
    (λ ty rest. Out.out (End.whole (over_two (λ (exp : FullExp) (ty : FullTy). e.Typed exp ty place) left ty)) rest)
unfolding constraint
constraint_go n place left xs h =
    goes (nat_lt left.height n) _ _ (lt-ltb left.height n h)
    ∙ ap (λ (b : Level). then (read b.ty xs)
    (λ ty rest. Out.out (End.whole (over_two (λ (exp : FullExp) (ty : FullTy). e.Typed exp ty place) left ty)) rest))
    (below_less left.height n h)

pub constraint_deep : (n : ℕ) (b : Level) (place : At) (left : Tall FullExp) (xs : List Lexeme) → n ≤ left.height
    → read (constraint n b place left) xs ≡ Out.out End.deep xs
unfolding constraint
constraint_deep n b place left xs h = stops (nat_lt left.height n) _ _ (le-ltb left.height n h)

pub ruleset constraint_steps = (constraint_go, constraint_deep)

pub constraints_go : (n : ℕ) (b : Level) (place : At) (left : Tall FullExp) (xs : List Lexeme)
    → begins (is w.Colon) (head_or xs None) ≡ true
    → read (constraints n b place left) xs
    ≡ then (read (constraint n b place left) (drop 1 xs)) (λ made rest. read (constraints n b place made) rest)
unfolding constraints
constraints_go n b place left [] h = absurd (cc)
constraints_go n b place left (x ∷ xs) h =
    many_go (λ _ (x : Lexeme). is w.Colon x) (λ left _. constraint n b place left) left x xs h

pub constraints_end : (n : ℕ) (b : Level) (place : At) (left : Tall FullExp) (xs : List Lexeme)
    → begins (is w.Colon) (head_or xs None) ≡ false
    → read (constraints n b place left) xs ≡ Out.out (End.whole left) xs
unfolding constraints
constraints_end n b place left xs h =
    many_end (λ _ (x : Lexeme). is w.Colon x) (λ left _. constraint n b place left) left xs h

pub ruleset constraints_steps = (constraints_go, constraints_end, not_longer, one_less)

-- ---- operands, chains and handlers

pub operand_typed : (n : ℕ) (b : Level) (fs : Fixities) (x : Lexeme) (xs : List Lexeme)
    → starts_prefix (word x) ≡ false → read (operand_after n b fs x) xs ≡ read (typed_of n b fs x) xs
unfolding operand_after
operand_typed n b fs x xs h = ap (λ (is : Bool). read (operand_by n b fs x is) xs) h

pub operand_prefix : (n : ℕ) (fs : Fixities) (x : Lexeme) (xs : List Lexeme)
    → starts_prefix (word x) ≡ true → 0 < n
    → read (operand_after n (below n) fs x) xs ≡ read (prefix_after (level (n - 1)) fs x) xs
unfolding operand_after
operand_prefix n fs x xs h room =
    ap (λ (is : Bool). read (operand_by n (below n) fs x is) xs) h
    ∙ goes (nat_lt 0 n) _ _ (lt-ltb 0 n room)
    ∙ ap (λ (b : Level). read (prefix_after b fs x) xs) (below_less 0 n room)

pub operand_deep : (n : ℕ) (b : Level) (fs : Fixities) (x : Lexeme) (xs : List Lexeme)
    → starts_prefix (word x) ≡ true → n ≡ 0 → read (operand_after n b fs x) xs ≡ Out.out End.deep xs
unfolding operand_after
operand_deep n b fs x xs h none = ap (λ (is : Bool). read (operand_by n b fs x is) xs) h ∙ rw none refl

pub ruleset operand_steps = (operand_typed, operand_prefix, operand_deep)

pub beside_go : (n : ℕ) (fs : Fixities) (place : At) (chain : Chain) (left : Tall FullExp) (xs : List Lexeme)
    → left.height < n
    → read (beside n (below n) fs place chain left) xs
    ≡ then (read (side (level (n - 1)) fs chain) xs)
    (λ right rest. Out.out (End.whole (over_two (link chain place) left right)) rest)
unfolding beside
beside_go n fs place chain left xs h =
    goes (nat_lt left.height n) _ _ (lt-ltb left.height n h)
    ∙ ap (λ (b : Level). then (read (side b fs chain) xs)
    (λ right rest. Out.out (End.whole (over_two (link chain place) left right)) rest)) (below_less left.height n h)

pub beside_deep : (n : ℕ) (b : Level) (fs : Fixities) (place : At) (chain : Chain) (left : Tall FullExp)
    (xs : List Lexeme) → n ≤ left.height → read (beside n b fs place chain left) xs ≡ Out.out End.deep xs
unfolding beside
beside_deep n b fs place chain left xs h = stops (nat_lt left.height n) _ _ (le-ltb left.height n h)

pub ruleset beside_steps = (beside_go, beside_deep)

pub chained_go : (n : ℕ) (b : Level) (fs : Fixities) (place : At) (chain : Chain) (left : Tall FullExp)
    (xs : List Lexeme) → begins (is (chain_word chain)) (head_or xs None) ≡ true
    → read (chained n b fs place chain left) xs
    ≡ then (read (beside n b fs place chain left) (drop 1 xs))
    (λ made rest. read (chained n b fs place chain made) rest)
unfolding chained
chained_go n b fs place chain left [] h = absurd (cc)
chained_go n b fs place chain left (x ∷ xs) h =
    many_go (λ _ (x : Lexeme). is (chain_word chain) x) (λ left _. beside n b fs place chain left) left x xs h

pub chained_end : (n : ℕ) (b : Level) (fs : Fixities) (place : At) (chain : Chain) (left : Tall FullExp)
    (xs : List Lexeme) → begins (is (chain_word chain)) (head_or xs None) ≡ false
    → read (chained n b fs place chain left) xs ≡ Out.out (End.whole left) xs
unfolding chained
chained_end n b fs place chain left xs h =
    many_end (λ _ (x : Lexeme). is (chain_word chain) x) (λ left _. beside n b fs place chain left) left xs h

pub ruleset chained_steps = (chained_go, chained_end, not_longer, one_less)

pub handled_go : (n : ℕ) (b : Level) (fs : Fixities) (place : At) (left : Tall FullExp) (xs : List Lexeme)
    → begins (is w.Handle) (head_or xs None) ≡ true
    → read (handled n b fs place left) xs ≡ read (handle_exp n b fs place left) (drop 1 xs)
unfolding handled
handled_go n b fs place left [] h = absurd (cc)
handled_go n b fs place left (x ∷ xs) h = goes (is w.Handle x) _ _ h

pub handled_stop : (n : ℕ) (b : Level) (fs : Fixities) (place : At) (left : Tall FullExp) (xs : List Lexeme)
    → begins (is w.Handle) (head_or xs None) ≡ false
    → read (handled n b fs place left) xs ≡ Out.out (End.whole left) xs
unfolding handled
handled_stop n b fs place left [] h = refl
handled_stop n b fs place left (x ∷ xs) h = stops (is w.Handle x) _ _ h

pub ruleset handled_steps = (handled_go, handled_stop)

pub handle_go : (n : ℕ) (fs : Fixities) (place : At) (left : Tall FullExp) (xs : List Lexeme) → left.height < n
    → read (handle_exp n (below n) fs place left) xs
    ≡ then (read (rules_of (level (n - 1)) fs) xs)
    (λ rules rest. Out.out (End.whole
    (over_two (λ (exp : FullExp) (rules : List FullRule). e.Handle exp rules place) left rules)) rest)
unfolding handle_exp
handle_go n fs place left xs h =
    goes (nat_lt left.height n) _ _ (lt-ltb left.height n h)
    ∙ ap (λ (b : Level). then (read (rules_of b fs) xs)
    (λ rules rest. Out.out (End.whole
    (over_two (λ (exp : FullExp) (rules : List FullRule). e.Handle exp rules place) left rules)) rest))
    (below_less left.height n h)

pub handle_deep : (n : ℕ) (b : Level) (fs : Fixities) (place : At) (left : Tall FullExp) (xs : List Lexeme)
    → n ≤ left.height → read (handle_exp n b fs place left) xs ≡ Out.out End.deep xs
unfolding handle_exp
handle_deep n b fs place left xs h = stops (nat_lt left.height n) _ _ (le-ltb left.height n h)

pub ruleset handle_steps = (handle_go, handle_deep)
