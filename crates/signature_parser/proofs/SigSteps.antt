-- How signatures are read, a step at a time.
use Rattle.std.proofs.Common.{◌≡◌, ℕ, zero, suc, ◌+◌, ◌-◌, ◌<◌, ◌≤◌, List, [], ◌∷◌, Option, Some, None, Bool, true, false, not, ◌&&◌, Result, Ok, Err, refl, sym, ap, subst, ◌∙◌, drop, length, nat_lt, arith}
use Rattle.std.specs.Result.{IsErrAnd}
use Rattle.std.proofs.lemmas.Bool.{lt-ltb}
use Rattle.std.proofs.lemmas.Bool.Decides.{nat_tests}
use Rattle.grammars.specs.Grammar.{Grammar, End, begins, head_or}
use Rattle.grammars.specs.Reading.{Out, chain, read}
use Rattle.grammars.proofs.Choices.{on_go, on_stop}
use Rattle.grammars.proofs.Complete.{goes, stops}
use Rattle.grammars.proofs.Rounds.{many_go, many_end, not_longer}
use Rattle.sml_lexer.specs.declared.lexeme.Lexeme.{Lexeme}
use Rattle.sml_trees.specs.declared.full_sig.FullSigExp.{FullSigExp}
use Rattle.sml_trees.specs.declared.full_sig.FullSpec.{FullSpec}
use Rattle.sml_trees.specs.declared.full_sig.FullWhere.{FullWhere}
use Rattle.sml_trees.specs.declared.full_ty.FullTy.{FullTy}
use Rattle.sml_trees.specs.declared.name.At.{At}
use Rattle.phrase_reading.specs.Names.{marked}
use Rattle.phrase_reading.specs.Sized.{lower}
use Rattle.phrase_reading.specs.Reads.{Stops}
use Rattle.phrase_reading.specs.Words.{g, is, word, at}
use Rattle.phrase_reading.specs.declared.stop.Stop.{Stop}
use Rattle.phrase_reading.specs.declared.stop.Stop.TheVariants as stop
use Rattle.phrase_reading.specs.declared.tall.Tall.{Tall}
use Rattle.sml_lexer.specs.declared.words.Word.{Word}
use Rattle.sml_lexer.specs.declared.words.Word.TheVariants as w
use Rattle.phrase_reading.proofs.NameSteps.{marked_go, marked_stop}
use Rattle.phrase_reading.proofs.Steps.{lower_go, one_less}
use Rattle.signature_parser.specs.Rounds.{next_begin, if_begins}
use Rattle.signature_parser.specs.SigLevels.{sig_level, sig_below}
use Rattle.signature_parser.specs.Signatures.{SigLevel, starts_sig, sig_behind, sig_within, goes_on_with, where_bind, where_type, where_types_from, one_type, and_type, wheres, where_behind}
use Rattle.signature_parser.specs.Specifications.{is_spec_round, spec_round, specs_from, spec_of, spec_word}
use Rattle.signature_parser.specs.declared.joined.Joined.{Joined}

-- what a call answers, by what the reader does
abbrev pub ReadsOut : {A : Type 0} → Out Lexeme A → Result A Stop → List Lexeme → Type 0
ReadsOut o (Ok value) left = o ≡ Out.out (End.whole value) left
ReadsOut o (Err why) left = Stops why o left

-- ---- levels

-- What leaves no level can't become a part.
pub lower_deep : {A B : Type 0} (levels : ℕ) (left : Tall A) (behind : g B) (xs : List Lexeme) → levels ≤ left.height
    → read (lower levels left behind) xs ≡ Out.out End.deep xs
lower_deep levels left behind xs h = stops (nat_lt left.height levels) _ _ (grind (arith, nat_tests))

pub ruleset lower_steps = (lower_go, lower_deep)

-- behind a lexeme that opens a level, where one is left
opened_go : {A : Type 0} (n : ℕ) (behind : g A) (xs : List Lexeme) → 0 < n
    → read (Grammar.within (nat_lt 0 n) behind) xs ≡ read behind xs
opened_go n behind xs h = goes (nat_lt 0 n) _ _ (lt-ltb 0 n h)

-- where none is left, it is too deep
opened_deep : {A : Type 0} (n : ℕ) (behind : g A) (xs : List Lexeme) → n ≡ 0
    → read (Grammar.within (nat_lt 0 n) behind) xs ≡ Out.out End.deep xs
opened_deep zero behind xs h = refl
opened_deep (suc n) behind xs h = absurd (cc)

-- one level less than some is the level below
pub below_less : (n : ℕ) → 0 < n → sig_below n ≡ sig_level (n - 1)
unfolding sig_below
below_less zero h = absurd (omega arith)
below_less (suc m) h = let e : suc m - 1 ≡ m = omega arith in rw e refl

-- what a call answers that passes a stop on
pub as_result : {A : Type 0} (target : Out Lexeme A) (why : Stop) (result : Result A Stop) (left : List Lexeme)
    → IsErrAnd result (λ given. given ≡ why) → Stops why target left → ReadsOut target result left
as_result target why (Ok value) left h stops = absurd h
as_result target why (Err given) left h stops = subst (λ (s : Stop). Stops s target left) (sym h) stops

-- what a call answers that goes on with another
pub reads_by : {A : Type 0} (o p : Out Lexeme A) (result : Result A Stop) (left : List Lexeme) → o ≡ p
    → ReadsOut p result left → ReadsOut o result left
reads_by {A} o p result left same h = subst (λ (q : Out Lexeme A). ReadsOut q result left) (sym same) h

-- ---- rounds that begin with a word, and rounds behind a mark that a phrase may have taken already

module _ {A : Type 0} (t : Option Word → Bool) (step : A → Lexeme → g A) where
  pub begin_go : (a : A) (x : Lexeme) (xs : List Lexeme) → next_begin t (head_or xs None) ≡ Some x
      → read (Grammar.many (λ _ x. t (word x)) step a) xs
      ≡ chain (read (step a x) (drop 1 xs)) (λ b rest. read (Grammar.many (λ _ x. t (word x)) step b) rest)
  begin_go a x [] h = absurd (cc)
  begin_go a x (y ∷ xs) h = by_test (t (word y)) refl h
    where
      by_test : (b : Bool) → t (word y) ≡ b → if_begins b y ≡ Some x
          → read (Grammar.many (λ _ x. t (word x)) step a) (y ∷ xs)
          ≡ chain (read (step a x) xs) (λ b rest. read (Grammar.many (λ _ x. t (word x)) step b) rest)
      by_test true fact h =
          let same : y ≡ x = cc in
          many_go (λ _ x. t (word x)) step a y xs fact
          ∙ ap (λ (z : Lexeme). chain (read (step a z) xs) (λ b rest. read (Grammar.many (λ _ x. t (word x)) step b) rest)) same
      by_test false fact h = absurd (cc)

  pub begin_end : (a : A) (xs : List Lexeme) → next_begin t (head_or xs None) ≡ None
      → read (Grammar.many (λ _ x. t (word x)) step a) xs ≡ Out.out (End.whole a) xs
  begin_end a [] h = refl
  begin_end a (y ∷ xs) h = by_test (t (word y)) refl h
    where
      by_test : (b : Bool) → t (word y) ≡ b → if_begins b y ≡ None
          → read (Grammar.many (λ _ x. t (word x)) step a) (y ∷ xs) ≡ Out.out (End.whole a) (y ∷ xs)
      by_test true fact h = absurd (cc)
      by_test false fact h = many_end (λ _ x. t (word x)) step a (y ∷ xs) fact

-- A round of a loop: what is left to read goes on from its value.
pub begin_kept : {A : Type 0} (t : Option Word → Bool) (step : A → Lexeme → g A) (a b : A) (x : Lexeme)
    (xs rest : List Lexeme) (target : Out Lexeme A) → next_begin t (head_or xs None) ≡ Some x
    → read (step a x) (drop 1 xs) ≡ Out.out (End.whole b) rest
    → read (Grammar.many (λ _ x. t (word x)) step a) xs ≡ target
    → read (Grammar.many (λ _ x. t (word x)) step b) rest ≡ target
begin_kept {A} t step a b x xs rest target h is so =
    sym (begin_go t step a x xs h
    ∙ ap (λ (o : Out Lexeme A). chain o (λ b rest. read (Grammar.many (λ _ x. t (word x)) step b) rest)) is)
    ∙ so

-- A round that isn't whole ends all.
pub begin_stops : {A : Type 0} (t : Option Word → Bool) (step : A → Lexeme → g A) (a : A) (x : Lexeme) (why : Stop)
    (xs rest : List Lexeme) (target : Out Lexeme A) → next_begin t (head_or xs None) ≡ Some x
    → Stops why (read (step a x) (drop 1 xs)) rest
    → read (Grammar.many (λ _ x. t (word x)) step a) xs ≡ target → Stops why target rest
begin_stops {A} t step a x stop.Refused xs rest target h is so =
    sym so ∙ begin_go t step a x xs h
    ∙ ap (λ (o : Out Lexeme A). chain o (λ b rest. read (Grammar.many (λ _ x. t (word x)) step b) rest)) is
begin_stops {A} t step a x stop.TooDeep xs rest target h is so =
    sym so ∙ begin_go t step a x xs h
    ∙ ap (λ (o : Out Lexeme A). chain o (λ b rest. read (Grammar.many (λ _ x. t (word x)) step b) rest)) is
begin_stops t step a x stop.NoMemory xs rest target h is so = tt

-- where a round begins, there is a lexeme to take
pub begin_left : (t : Option Word → Bool) (x : Lexeme) (xs : List Lexeme) → next_begin t (head_or xs None) ≡ Some x
    → length (drop 1 xs) < length xs
begin_left t x [] h = absurd (cc)
begin_left t x (y ∷ xs) h = omega arith

module _ {A : Type 0} (mark : Word) (joined : A → Bool) (step : A → g A) where
  abbrev goes_here : A → Lexeme → Bool
  goes_here a x = goes_on_with mark (joined a) x

  pub mark_go : (a : A) (xs : List Lexeme) → joined a ≡ false → begins (is mark) (head_or xs None) ≡ true
      → read (Grammar.many goes_here (λ a _. step a) a) xs
      ≡ chain (read (step a) (drop 1 xs)) (λ b rest. read (Grammar.many goes_here (λ a _. step a) b) rest)
  mark_go a [] apart h = absurd (cc)
  mark_go a (x ∷ xs) apart h =
      many_go goes_here (λ a _. step a) a x xs (ap (λ (b : Bool). not b && is mark x) apart ∙ h)

  pub mark_end : (a : A) (xs : List Lexeme) → begins (is mark) (head_or xs None) ≡ false
      → read (Grammar.many goes_here (λ a _. step a) a) xs ≡ Out.out (End.whole a) xs
  mark_end a [] h = refl
  mark_end a (x ∷ xs) h = many_end goes_here (λ a _. step a) a (x ∷ xs) (by_joined (joined a))
    where
      by_joined : (b : Bool) → goes_on_with mark b x ≡ false
      by_joined true = refl
      by_joined false = h

  pub mark_joined : (a : A) (xs : List Lexeme) → joined a ≡ true
      → read (Grammar.many goes_here (λ a _. step a) a) xs ≡ Out.out (End.whole a) xs
  mark_joined a [] h = refl
  mark_joined a (x ∷ xs) h =
      many_end goes_here (λ a _. step a) a (x ∷ xs) (ap (λ (b : Bool). not b && is mark x) h)

-- ---- where type

pub where_type_go : (ty : g (Tall FullTy)) (x : Lexeme) (xs : List Lexeme)
    → marked w.TypeWord (head_or xs None) ≡ Some x
    → read (where_type ty) xs ≡ read (where_bind ty x) (drop 1 xs)
unfolding where_type
where_type_go ty x xs h = marked_go w.TypeWord (where_bind ty) Grammar.refuse x xs h

pub where_type_stop : (ty : g (Tall FullTy)) (xs : List Lexeme) → marked w.TypeWord (head_or xs None) ≡ None
    → read (where_type ty) xs ≡ Out.out End.refused xs
unfolding where_type
where_type_stop ty xs h = marked_stop w.TypeWord (where_bind ty) Grammar.refuse xs h

pub ruleset where_type_steps = (where_type_go, where_type_stop)

-- none: the `and` was that of the phrase around
abbrev no_type : Tall (List FullWhere) → g (Joined (List FullWhere))
no_type found = Grammar.pure (record { made = found; joined = true })

pub and_type_go : (ty : g (Tall FullTy)) (found : Tall (List FullWhere)) (x : Lexeme) (xs : List Lexeme)
    → marked w.TypeWord (head_or xs None) ≡ Some x
    → read (and_type ty found) xs ≡ read (one_type ty found x) (drop 1 xs)
unfolding and_type
and_type_go ty found x xs h = marked_go w.TypeWord (one_type ty found) (no_type found) x xs h

pub and_type_stop : (ty : g (Tall FullTy)) (found : Tall (List FullWhere)) (xs : List Lexeme)
    → marked w.TypeWord (head_or xs None) ≡ None
    → read (and_type ty found) xs ≡ Out.out (End.whole (record { made = found; joined = true })) xs
unfolding and_type
and_type_stop ty found xs h = marked_stop w.TypeWord (one_type ty found) (no_type found) xs h

pub ruleset and_type_steps = (and_type_go, and_type_stop)

pub where_types_go : (ty : g (Tall FullTy)) (found : Joined (List FullWhere)) (xs : List Lexeme)
    → found.joined ≡ false → begins (is w.And) (head_or xs None) ≡ true
    → read (where_types_from ty found) xs
    ≡ chain (read (and_type ty found.made) (drop 1 xs)) (λ next rest. read (where_types_from ty next) rest)
unfolding where_types_from
where_types_go ty found xs apart h = mark_go w.And (λ found. found.joined) (λ found. and_type ty found.made) found xs apart h

pub where_types_end : (ty : g (Tall FullTy)) (found : Joined (List FullWhere)) (xs : List Lexeme)
    → begins (is w.And) (head_or xs None) ≡ false
    → read (where_types_from ty found) xs ≡ Out.out (End.whole found) xs
unfolding where_types_from
where_types_end ty found xs h = mark_end w.And (λ found. found.joined) (λ found. and_type ty found.made) found xs h

pub where_types_joined : (ty : g (Tall FullTy)) (found : Joined (List FullWhere)) (xs : List Lexeme)
    → found.joined ≡ true → read (where_types_from ty found) xs ≡ Out.out (End.whole found) xs
unfolding where_types_from
where_types_joined ty found xs h = mark_joined w.And (λ found. found.joined) (λ found. and_type ty found.made) found xs h

pub ruleset where_types_steps = (where_types_go, where_types_end, where_types_joined, not_longer, one_less)

pub wheres_go : (n : ℕ) (ty : g (Tall FullTy)) (place : At) (left : Joined FullSigExp) (xs : List Lexeme)
    → left.joined ≡ false → begins (is w.Where) (head_or xs None) ≡ true
    → read (wheres n ty place left) xs
    ≡ chain (read (where_behind n ty place left.made) (drop 1 xs)) (λ next rest. read (wheres n ty place next) rest)
unfolding wheres
wheres_go n ty place left xs apart h =
    mark_go w.Where (λ left. left.joined) (λ left. where_behind n ty place left.made) left xs apart h

pub wheres_end : (n : ℕ) (ty : g (Tall FullTy)) (place : At) (left : Joined FullSigExp) (xs : List Lexeme)
    → begins (is w.Where) (head_or xs None) ≡ false
    → read (wheres n ty place left) xs ≡ Out.out (End.whole left) xs
unfolding wheres
wheres_end n ty place left xs h =
    mark_end w.Where (λ left. left.joined) (λ left. where_behind n ty place left.made) left xs h

pub wheres_joined : (n : ℕ) (ty : g (Tall FullTy)) (place : At) (left : Joined FullSigExp) (xs : List Lexeme)
    → left.joined ≡ true → read (wheres n ty place left) xs ≡ Out.out (End.whole left) xs
unfolding wheres
wheres_joined n ty place left xs h =
    mark_joined w.Where (λ left. left.joined) (λ left. where_behind n ty place left.made) left xs h

pub ruleset wheres_steps = (wheres_go, wheres_end, wheres_joined, not_longer, one_less)

-- ---- signature expressions

pub sig_go : (n : ℕ) (x : Lexeme) (xs : List Lexeme) → head_or xs None ≡ Some x → starts_sig x ≡ true → 0 < n
    → read (sig_level n).sig xs ≡ read (sig_within n (sig_level (n - 1)) x) (drop 1 xs)
sig_go n x xs h starts low =
    on_go starts_sig (sig_behind n (sig_below n)) Grammar.refuse x xs h starts
    ∙ opened_go n (sig_within n (sig_below n) x) (drop 1 xs) low
    ∙ ap (λ (parts : SigLevel). read (sig_within n parts x) (drop 1 xs)) (below_less n low)

pub sig_deep : (n : ℕ) (x : Lexeme) (xs : List Lexeme) → head_or xs None ≡ Some x → starts_sig x ≡ true → n ≡ 0
    → read (sig_level n).sig xs ≡ Out.out End.deep (drop 1 xs)
sig_deep n x xs h starts none =
    on_go starts_sig (sig_behind n (sig_below n)) Grammar.refuse x xs h starts
    ∙ opened_deep n (sig_within n (sig_below n) x) (drop 1 xs) none

pub sig_refused : (n : ℕ) (xs : List Lexeme) → begins starts_sig (head_or xs None) ≡ false
    → read (sig_level n).sig xs ≡ Out.out End.refused xs
sig_refused n xs h = on_stop starts_sig (sig_behind n (sig_below n)) Grammar.refuse xs h

pub ruleset sig_steps = (sig_go, sig_deep, sig_refused)

-- ---- specifications

pub spec_go : (n : ℕ) (x : Lexeme) (xs : List Lexeme) → 0 < n
    → read (spec_of n (sig_below n) x) xs ≡ read (spec_word (n - 1) (sig_level (n - 1)) (at x) (word x)) xs
spec_go n x xs low =
    opened_go n (spec_word (n - 1) (sig_below n) (at x) (word x)) xs low
    ∙ ap (λ (parts : SigLevel). read (spec_word (n - 1) parts (at x) (word x)) xs) (below_less n low)

pub spec_deep : (n : ℕ) (x : Lexeme) (xs : List Lexeme) → n ≡ 0
    → read (spec_of n (sig_below n) x) xs ≡ Out.out End.deep xs
spec_deep n x xs none = opened_deep n (spec_word (n - 1) (sig_below n) (at x) (word x)) xs none

pub ruleset spec_steps = (spec_go, spec_deep)

pub specs_go : (n : ℕ) (parts : SigLevel) (found : Tall (List FullSpec)) (x : Lexeme) (xs : List Lexeme)
    → next_begin is_spec_round (head_or xs None) ≡ Some x
    → read (specs_from n parts found) xs
    ≡ chain (read (spec_round n parts found x) (drop 1 xs)) (λ next rest. read (specs_from n parts next) rest)
unfolding specs_from
specs_go n parts found x xs h = begin_go is_spec_round (spec_round n parts) found x xs h

pub specs_end : (n : ℕ) (parts : SigLevel) (found : Tall (List FullSpec)) (xs : List Lexeme)
    → next_begin is_spec_round (head_or xs None) ≡ None
    → read (specs_from n parts found) xs ≡ Out.out (End.whole found) xs
unfolding specs_from
specs_end n parts found xs h = begin_end is_spec_round (spec_round n parts) found xs h

pub specs_kept : (n : ℕ) (parts : SigLevel) (found next : Tall (List FullSpec)) (x : Lexeme) (xs rest : List Lexeme)
    (target : Out Lexeme (Tall (List FullSpec))) → next_begin is_spec_round (head_or xs None) ≡ Some x
    → read (spec_round n parts found x) (drop 1 xs) ≡ Out.out (End.whole next) rest
    → read (specs_from n parts found) xs ≡ target → read (specs_from n parts next) rest ≡ target
unfolding specs_from
specs_kept n parts found next x xs rest target h is so =
    begin_kept is_spec_round (spec_round n parts) found next x xs rest target h is so

pub specs_stops : (n : ℕ) (parts : SigLevel) (found : Tall (List FullSpec)) (x : Lexeme) (why : Stop)
    (xs rest : List Lexeme) (target : Out Lexeme (Tall (List FullSpec)))
    → next_begin is_spec_round (head_or xs None) ≡ Some x → Stops why (read (spec_round n parts found x) (drop 1 xs)) rest
    → read (specs_from n parts found) xs ≡ target → Stops why target rest
unfolding specs_from
specs_stops n parts found x why xs rest target h is so =
    begin_stops is_spec_round (spec_round n parts) found x why xs rest target h is so

pub specs_left : (x : Lexeme) (xs : List Lexeme) → next_begin is_spec_round (head_or xs None) ≡ Some x
    → length (drop 1 xs) < length xs
specs_left x xs h = begin_left is_spec_round x xs h

pub ruleset specs_steps = (specs_go, specs_end, not_longer, specs_left)
