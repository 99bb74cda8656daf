-- How structures are read, a step at a time.
use Rattle.std.proofs.Common.{◌≡◌, ℕ, zero, suc, ◌+◌, ◌-◌, ◌<◌, ◌≤◌, List, [], ◌∷◌, Option, Some, None, Bool, true, false, Result, Ok, Err, refl, sym, ap, subst, ◌∙◌, drop, length, nat_lt, take, arith}
use Rattle.std.proofs.lemmas.Bool.{lt-ltb}
use Rattle.grammars.specs.Grammar.{Grammar, End, ◌>>◌, begins, head_or}
use Rattle.grammars.specs.Reading.{Out, chain, read}
use Rattle.grammars.proofs.Complete.{goes, stops}
use Rattle.grammars.proofs.Rounds.{many_go, many_end, not_longer}
use Rattle.sml_lexer.specs.declared.lexeme.Lexeme.{Lexeme}
use Rattle.sml_trees.specs.declared.full_str.FullStrExp.{FullStrExp}
use Rattle.sml_trees.specs.declared.full_str.FullStrExp.TheVariants as t
use Rattle.sml_trees.specs.declared.full_sig.FullSigExp.{FullSigExp}
use Rattle.sml_trees.specs.declared.name.At.{At}
use Rattle.sml_trees.specs.declared.name.Name.{Name}
use Rattle.phrase_reading.specs.Names.{if_marked, marked, flat}
use Rattle.std.specs.Result.{IsErrAnd}
use Rattle.sml_trees.specs.declared.full_str.FullStrDec.{FullStrDec}
use Rattle.core_bindings.specs.Decs.{declared}
use Rattle.phrase_reading.specs.declared.tall.Tall.{Tall}
use Rattle.infix_names.specs.Fixities.{Fixities}
use Rattle.core_bindings.specs.Decs.{Decs}
use Rattle.phrase_reading.specs.Reads.{Stops}
use Rattle.phrase_reading.specs.Words.{g, is, word, token}
use Rattle.phrase_reading.specs.declared.stop.Stop.{Stop}
use Rattle.phrase_reading.specs.declared.stop.Stop.TheVariants as stop
use Rattle.sml_lexer.specs.declared.words.Word.TheVariants as w
use Rattle.phrase_reading.proofs.NameSteps.{marked_go, marked_stop}
use Rattle.core_expressions.proofs.DecSteps.{opened_go, opened_deep}
use Rattle.infix_names.proofs.Kept.{kept_then}
use Rattle.signature_parser.specs.Rounds.{next_begin, if_begins}
use Rattle.module_parser.specs.StrLevels.{str_level, str_below}
use Rattle.module_parser.specs.Structures.{StrLevel, starts_str, if_str, next_str, str, seal_behind, maybe_seal, str_within, str_dec_of, str_dec_word, is_str_round, str_round, str_decs_from, str_decs_behind, no_str_decs, of_str, of_decs, of_strdec, first_at, argument, seals_on, if_seal, next_seal, seals, seal_of}
use Rattle.signature_parser.specs.declared.joined.Joined.{Joined}
use Rattle.signature_parser.proofs.SigSteps.{begin_go, begin_end, begin_kept, begin_stops, begin_left}

-- ---- levels

-- one level less than some is the level below
str_below_less : (n : ℕ) → 0 < n → str_below n ≡ str_level (n - 1)
unfolding str_below
str_below_less zero h = absurd (omega arith)
str_below_less (suc m) h = let e : suc m - 1 ≡ m = omega arith in rw e refl

pub after_go : (n : ℕ) (fs : Fixities) (x : Lexeme) (xs : List Lexeme) → 0 < n
    → read ((str_level n).str_after fs x) xs ≡ read (str_within n (str_level (n - 1)) fs x) xs
after_go n fs x xs low =
    opened_go n (str_within n (str_below n) fs x) xs low
    ∙ ap (λ (parts : StrLevel). read (str_within n parts fs x) xs) (str_below_less n low)

pub after_deep : (n : ℕ) (fs : Fixities) (x : Lexeme) (xs : List Lexeme) → n ≡ 0
    → read ((str_level n).str_after fs x) xs ≡ Out.out End.deep xs
after_deep n fs x xs none = opened_deep n (str_within n (str_below n) fs x) xs none

pub ruleset after_steps = (after_go, after_deep)

pub dec_go : (n : ℕ) (fs : Fixities) (x : Lexeme) (xs : List Lexeme) → 0 < n
    → read (str_dec_of n (str_below n) fs x) xs ≡ read (str_dec_word n (str_level (n - 1)) fs x (word x)) xs
dec_go n fs x xs low =
    opened_go n (str_dec_word n (str_below n) fs x (word x)) xs low
    ∙ ap (λ (parts : StrLevel). read (str_dec_word n parts fs x (word x)) xs) (str_below_less n low)

pub dec_deep : (n : ℕ) (fs : Fixities) (x : Lexeme) (xs : List Lexeme) → n ≡ 0
    → read (str_dec_of n (str_below n) fs x) xs ≡ Out.out End.deep xs
dec_deep n fs x xs none = opened_deep n (str_dec_word n (str_below n) fs x (word x)) xs none

pub ruleset dec_steps = (dec_go, dec_deep)

-- ---- signatures before `=`

pub colon_go : (sig : g (Joined FullSigExp)) (x : Lexeme) (xs : List Lexeme)
    → marked w.Colon (head_or xs None) ≡ Some x
    → read (maybe_seal sig) xs ≡ read (seal_behind sig false x) (drop 1 xs)
unfolding maybe_seal
colon_go sig x xs h =
    marked_go w.Colon (seal_behind sig false) (if_marked w.Seal (seal_behind sig true) (Grammar.pure (flat None))) x xs h

pub seal_go : (sig : g (Joined FullSigExp)) (x : Lexeme) (xs : List Lexeme)
    → marked w.Colon (head_or xs None) ≡ None → marked w.Seal (head_or xs None) ≡ Some x
    → read (maybe_seal sig) xs ≡ read (seal_behind sig true x) (drop 1 xs)
unfolding maybe_seal
seal_go sig x xs other h =
    marked_stop w.Colon (seal_behind sig false) (if_marked w.Seal (seal_behind sig true) (Grammar.pure (flat None))) xs other
    ∙ marked_go w.Seal (seal_behind sig true) (Grammar.pure (flat None)) x xs h

pub no_seal : (sig : g (Joined FullSigExp)) (xs : List Lexeme)
    → marked w.Colon (head_or xs None) ≡ None → marked w.Seal (head_or xs None) ≡ None
    → read (maybe_seal sig) xs ≡ Out.out (End.whole (flat None)) xs
unfolding maybe_seal
no_seal sig xs other none =
    marked_stop w.Colon (seal_behind sig false) (if_marked w.Seal (seal_behind sig true) (Grammar.pure (flat None))) xs other
    ∙ marked_stop w.Seal (seal_behind sig true) (Grammar.pure (flat None)) xs none

pub ruleset maybe_seal_steps = (colon_go, seal_go, no_seal)

-- ---- structure expressions

pub str_go : (parts : StrLevel) (fs : Fixities) (x : Lexeme) (xs : List Lexeme) → next_str (head_or xs None) ≡ Some x
    → read (str parts fs) xs ≡ read (parts.str_after fs x) (drop 1 xs)
str_go parts fs x [] h = absurd (cc)
str_go parts fs x (y ∷ xs) h = by_test (starts_str y) refl h
  where
    by_test : (b : Bool) → starts_str y ≡ b → if_str b y ≡ Some x
        → read (str parts fs) (y ∷ xs) ≡ read (parts.str_after fs x) xs
    by_test true fact h =
        let same : y ≡ x = cc in
        goes (starts_str y) _ _ fact ∙ ap (λ (z : Lexeme). read (parts.str_after fs z) xs) same
    by_test false fact h = absurd (cc)

pub str_refused : (parts : StrLevel) (fs : Fixities) (xs : List Lexeme) → next_str (head_or xs None) ≡ None
    → read (str parts fs) xs ≡ Out.out End.refused xs
str_refused parts fs [] h = refl
str_refused parts fs (y ∷ xs) h = by_test (starts_str y) refl h
  where
    by_test : (b : Bool) → starts_str y ≡ b → if_str b y ≡ None → read (str parts fs) (y ∷ xs) ≡ Out.out End.refused (y ∷ xs)
    by_test true fact h = absurd (cc)
    by_test false fact h = stops (starts_str y) _ _ fact

pub ruleset str_steps = (str_go, str_refused)

pub argument_go : (parts : StrLevel) (fs : Fixities) (called : Name) (place : At) (x : Lexeme) (xs : List Lexeme)
    → next_str (head_or xs None) ≡ Some x
    → read (argument parts fs called place) xs ≡ read (of_str (parts.str_after fs x) called place) (drop 1 xs)
unfolding argument
argument_go parts fs called place x [] h = absurd (cc)
argument_go parts fs called place x (y ∷ xs) h = by_test (starts_str y) refl h
  where
    by_test : (b : Bool) → starts_str y ≡ b → if_str b y ≡ Some x
        → read (argument parts fs called place) (y ∷ xs) ≡ read (of_str (parts.str_after fs x) called place) xs
    by_test true fact h =
        let same : y ≡ x = cc in
        goes (starts_str y) _ _ fact ∙ ap (λ (z : Lexeme). read (of_str (parts.str_after fs z) called place) xs) same
    by_test false fact h = absurd (cc)

pub argument_stop : (parts : StrLevel) (fs : Fixities) (called : Name) (place : At) (xs : List Lexeme)
    → next_str (head_or xs None) ≡ None
    → read (argument parts fs called place) xs ≡ read (of_strdec parts fs called place) xs
unfolding argument
argument_stop parts fs called place [] h = refl
argument_stop parts fs called place (y ∷ xs) h = by_test (starts_str y) refl h
  where
    by_test : (b : Bool) → starts_str y ≡ b → if_str b y ≡ None
        → read (argument parts fs called place) (y ∷ xs) ≡ read (of_strdec parts fs called place) (y ∷ xs)
    by_test true fact h = absurd (cc)
    by_test false fact h = stops (starts_str y) _ _ fact

pub ruleset argument_steps = (argument_go, argument_stop)

-- ---- the declarations of an argument

abbrev closed : Name → At → At → Out Lexeme (Decs FullStrDec) → Out Lexeme (Tall FullStrExp)
closed called begin place o =
    chain o (λ inner rest. read (token w.Close
    >> Grammar.pure (record { tree = t.FunctorOfDecs called inner.decs begin place; height = inner.height + 1 })) rest)

pub strdec_is : (n : ℕ) (fs : Fixities) (called : Name) (place : At) (xs : List Lexeme)
    → read (of_strdec (str_level n) fs called place) xs
    ≡ read (of_decs ((str_level n).decs fs) called (first_at (next_begin is_str_round (head_or xs None)) place) place) xs
unfolding of_strdec of_decs str_decs_behind str_decs_from
strdec_is n fs called place [] = refl
strdec_is n fs called place (y ∷ xs) = by_test (is_str_round (word y)) refl
  where
    by_test : (b : Bool) → is_str_round (word y) ≡ b
        → read (of_strdec (str_level n) fs called place) (y ∷ xs)
        ≡ closed called (first_at (if_begins b y) place) place (read ((str_level n).decs fs) (y ∷ xs))
    by_test true fact =
        goes (is_str_round (word y)) _ _ fact
        ∙ ap (closed called (first_at (Some y) place) place)
        (sym (begin_go is_str_round (str_round n (str_below n)) (no_str_decs fs) y (y ∷ xs)
        (ap (λ (b : Bool). if_begins b y) fact)))
    by_test false fact =
        stops (is_str_round (word y)) _ _ fact
        ∙ ap (closed called (first_at None place) place)
        (sym (begin_end is_str_round (str_round n (str_below n)) (no_str_decs fs) (y ∷ xs)
        (ap (λ (b : Bool). if_begins b y) fact)))

pub ruleset strdec_steps = (strdec_is)

-- ---- signatures behind structure expressions

abbrev seal_round : ℕ → g (Joined FullSigExp) → At → Joined FullStrExp → Lexeme → g (Joined FullStrExp)
seal_round n sig place left x = seal_of n sig place left.made x

pub seals_go : (n : ℕ) (sig : g (Joined FullSigExp)) (place : At) (left : Joined FullStrExp) (x : Lexeme) (xs : List Lexeme)
    → next_seal left.joined (head_or xs None) ≡ Some x
    → read (seals n sig place left) xs
    ≡ chain (read (seal_of n sig place left.made x) (drop 1 xs)) (λ next rest. read (seals n sig place next) rest)
unfolding seals
seals_go n sig place left x [] h = absurd (cc)
seals_go n sig place left x (y ∷ xs) h = by_test (seals_on left.joined y) refl h
  where
    by_test : (b : Bool) → seals_on left.joined y ≡ b → if_seal b y ≡ Some x
        → read (seals n sig place left) (y ∷ xs)
        ≡ chain (read (seal_of n sig place left.made x) xs) (λ next rest. read (seals n sig place next) rest)
    by_test true fact h =
        let same : y ≡ x = cc in
        many_go (λ (left : Joined FullStrExp) x. seals_on left.joined x) (seal_round n sig place) left y xs fact
        ∙ ap (λ (z : Lexeme). chain (read (seal_of n sig place left.made z) xs) (λ next rest. read (seals n sig place next) rest)) same
    by_test false fact h = absurd (cc)

pub seals_end : (n : ℕ) (sig : g (Joined FullSigExp)) (place : At) (left : Joined FullStrExp) (xs : List Lexeme)
    → next_seal left.joined (head_or xs None) ≡ None
    → read (seals n sig place left) xs ≡ Out.out (End.whole left) xs
unfolding seals
seals_end n sig place left [] h = refl
seals_end n sig place left (y ∷ xs) h = by_test (seals_on left.joined y) refl h
  where
    by_test : (b : Bool) → seals_on left.joined y ≡ b → if_seal b y ≡ None
        → read (seals n sig place left) (y ∷ xs) ≡ Out.out (End.whole left) (y ∷ xs)
    by_test true fact h = absurd (cc)
    by_test false fact h =
        many_end (λ (left : Joined FullStrExp) x. seals_on left.joined x) (seal_round n sig place) left (y ∷ xs) fact

pub seals_left : (joined : Bool) (x : Lexeme) (xs : List Lexeme) → next_seal joined (head_or xs None) ≡ Some x
    → length (drop 1 xs) < length xs
seals_left joined x [] h = absurd (cc)
seals_left joined x (y ∷ xs) h = omega arith

pub seals_kept : (n : ℕ) (sig : g (Joined FullSigExp)) (place : At) (left next : Joined FullStrExp) (x : Lexeme)
    (xs rest : List Lexeme) (target : Out Lexeme (Joined FullStrExp)) → next_seal left.joined (head_or xs None) ≡ Some x
    → read (seal_of n sig place left.made x) (drop 1 xs) ≡ Out.out (End.whole next) rest
    → read (seals n sig place left) xs ≡ target → read (seals n sig place next) rest ≡ target
seals_kept n sig place left next x xs rest target h is so =
    sym (seals_go n sig place left x xs h
    ∙ ap (λ (o : Out Lexeme (Joined FullStrExp)). chain o (λ next rest. read (seals n sig place next) rest)) is)
    ∙ so

pub seals_stops : (n : ℕ) (sig : g (Joined FullSigExp)) (place : At) (left : Joined FullStrExp) (x : Lexeme) (why : Stop)
    (xs rest : List Lexeme) (target : Out Lexeme (Joined FullStrExp)) → next_seal left.joined (head_or xs None) ≡ Some x
    → Stops why (read (seal_of n sig place left.made x) (drop 1 xs)) rest
    → read (seals n sig place left) xs ≡ target → Stops why target rest
seals_stops n sig place left x stop.Refused xs rest target h is so =
    sym so ∙ seals_go n sig place left x xs h
    ∙ ap (λ (o : Out Lexeme (Joined FullStrExp)). chain o (λ next rest. read (seals n sig place next) rest)) is
seals_stops n sig place left x stop.TooDeep xs rest target h is so =
    sym so ∙ seals_go n sig place left x xs h
    ∙ ap (λ (o : Out Lexeme (Joined FullStrExp)). chain o (λ next rest. read (seals n sig place next) rest)) is
seals_stops n sig place left x stop.NoMemory xs rest target h is so = tt

pub ruleset seals_steps = (seals_end, not_longer, seals_left)

-- ---- declarations

pub str_decs_end : (n : ℕ) (parts : StrLevel) (found : Decs FullStrDec) (xs : List Lexeme)
    → next_begin is_str_round (head_or xs None) ≡ None
    → read (str_decs_from n parts found) xs ≡ Out.out (End.whole found) xs
unfolding str_decs_from
str_decs_end n parts found xs h = begin_end is_str_round (str_round n parts) found xs h

pub str_decs_kept : (n : ℕ) (parts : StrLevel) (found next : Decs FullStrDec) (x : Lexeme) (xs rest : List Lexeme)
    (target : Out Lexeme (Decs FullStrDec)) → next_begin is_str_round (head_or xs None) ≡ Some x
    → read (str_round n parts found x) (drop 1 xs) ≡ Out.out (End.whole next) rest
    → read (str_decs_from n parts found) xs ≡ target → read (str_decs_from n parts next) rest ≡ target
unfolding str_decs_from
str_decs_kept n parts found next x xs rest target h is so =
    begin_kept is_str_round (str_round n parts) found next x xs rest target h is so

pub str_decs_stops : (n : ℕ) (parts : StrLevel) (found : Decs FullStrDec) (x : Lexeme) (why : Stop) (xs rest : List Lexeme)
    (target : Out Lexeme (Decs FullStrDec)) → next_begin is_str_round (head_or xs None) ≡ Some x
    → Stops why (read (str_round n parts found x) (drop 1 xs)) rest
    → read (str_decs_from n parts found) xs ≡ target → Stops why target rest
unfolding str_decs_from
str_decs_stops n parts found x why xs rest target h is so =
    begin_stops is_str_round (str_round n parts) found x why xs rest target h is so

pub str_decs_left : (x : Lexeme) (xs : List Lexeme) → next_begin is_str_round (head_or xs None) ≡ Some x
    → length (drop 1 xs) < length xs
str_decs_left x xs h = begin_left is_str_round x xs h

-- what a call answers that reads declarations, by what the reader does
abbrev pub DecsOut : Out Lexeme (Decs FullStrDec) → Result (Tall (List FullStrDec)) Stop → Fixities → List Lexeme → Type 0
DecsOut o (Ok made) fs left = o ≡ Out.out (End.whole (declared made fs)) left
DecsOut o (Err why) fs left = Stops why o left

-- the same of one that passes a stop on
pub as_decs : (target : Out Lexeme (Decs FullStrDec)) (why : Stop) (result : Result (Tall (List FullStrDec)) Stop) (fs : Fixities)
    (left : List Lexeme) → IsErrAnd result (λ given. given ≡ why) → Stops why target left → DecsOut target result fs left
as_decs target why (Ok made) fs left h stops = absurd h
as_decs target why (Err given) fs left h stops = subst (λ (s : Stop). Stops s target left) (sym h) stops

pub ruleset str_decs_steps = (str_decs_end, not_longer, str_decs_left, kept_then)
