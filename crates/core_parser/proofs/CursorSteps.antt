-- Cursors: places in lexemes, the mark of a scope, and what the public calls answer.
use Rattle.std.proofs.Common.{◌≡◌, ℕ, zero, suc, ◌+◌, ◌-◌, ◌++◌, ◌<◌, ◌≤◌, inl, inr, List, [], ◌∷◌, Option, Some, None, Result, Ok, Err, OnOk, refl, ap, sym, subst, ◌∙◌, drop, take, length, set, slice_index_or, length-append, slice_get, append_assoc, arith}
use Rattle.std.proofs.lemmas.List.{take-append-drop, drop_at, drop_all, drop-drop}
use Rattle.cm_base.specs.declared.fault.Fault.{Fault}
use Rattle.cm_base.specs.declared.fault.Fault.TheVariants as fault
use Rattle.grammars.specs.Grammar.{End, head_or}
use Rattle.grammars.specs.Reading.{Out, read}
use Rattle.grammars.proofs.Sound.{sound}
use Rattle.grammars.proofs.Fronts.{place}
use Rattle.sml_lexer.specs.declared.lexeme.Lexeme.{Lexeme}
use Rattle.sml_trees.specs.declared.full_exp.FullDec.{FullDec}
use Rattle.core_parser.specs.Answers.{Answers, AnswersDec}
use Rattle.phrase_reading.specs.Refusals.{LongestRun, Refuses, refusal, place_of}
use Rattle.core_bindings.specs.Decs.{declares}
use Rattle.core_parser.specs.Cursors.{CursorState, before, mark_last, marked, fault_of, failure_of, refused_before, refused_at, scoped, FailsBefore, FailsWith, Settles, ParsesHere, ParsesDecHere}
use Rattle.infix_names.specs.Fixities.{Fixities}
use Rattle.core_bindings.specs.Decs.{Decs}
use Rattle.phrase_reading.specs.Reads.{Reads, Stops}
use Rattle.core_bindings.specs.Decs.{ReadsDec}
use Rattle.phrase_reading.specs.Words.{g}
use Rattle.core_parser.specs.declared.cursor.Scope.{Scope}
use Rattle.phrase_reading.specs.declared.stop.Stop.{Stop}
use Rattle.phrase_reading.specs.declared.stop.Stop.TheVariants as stop
use Rattle.phrase_reading.specs.declared.tall.Tall.{Tall}

-- ---- places

pub get_head : {X : Type 0} (xs : List X) (n : ℕ) → slice_get xs n ≡ head_or (drop n xs) None
get_head [] zero = refl
get_head [] (suc n) = refl
get_head (x ∷ xs) zero = refl
get_head (x ∷ xs) (suc n) = get_head xs n

pub one_more : {X : Type 0} (xs : List X) (n : ℕ) → drop (n + 1) xs ≡ drop 1 (drop n xs)
one_more xs n = sym (drop-drop 1 n xs)

pub none_more : {X : Type 0} (xs : List X) (n : ℕ) → length xs ≤ n → drop n xs ≡ drop 1 (drop n xs)
none_more xs n h = let none = drop_all n xs h in rw none refl

pub ruleset advance_steps = (one_more, none_more)

pub all_gone : {X : Type 0} (xs : List X) (n : ℕ) → length xs < n → [] ≡ drop n xs
all_gone xs n h = sym (drop_all n xs (omega (arith, h)))

-- what is left behind a reading stands there in all lexemes
left_there : {A : Type 0} (grammar : g A) (e : End A) (all left : List Lexeme) (taken : ℕ)
    → read grammar (drop taken all) ≡ Out.out e left → left ≡ drop (length all - length left) all
left_there grammar e all left taken h =
    let one = sound grammar (drop taken all) e left h in
    let whole : all ≡ (take taken all ++ one.0) ++ left =
    sym (take-append-drop taken all) ∙ ap (λ (xs : List Lexeme). take taken all ++ xs) one.1
    ∙ sym (append_assoc (take taken all) one.0 left) in
    let size : length all ≡ length (take taken all ++ one.0) + length left =
    ap length whole ∙ length-append (take taken all ++ one.0) left in
    let there : length (take taken all ++ one.0) ≡ length all - length left = omega (arith, size) in
    sym (ap (λ (xs : List Lexeme). drop (length all - length left) xs) whole
    ∙ drop_at (take taken all ++ one.0) left (length all - length left) there)

moved_stop : {A : Type 0} (grammar : g A) (all left : List Lexeme) (taken : ℕ) (why : Stop)
    → Stops why (read grammar (drop taken all)) left
    → Stops why (read grammar (drop taken all)) (drop (length all - length left) all)
moved_stop grammar all left taken stop.Refused h =
    h ∙ ap (λ (xs : List Lexeme). Out.out End.refused xs) (left_there grammar End.refused all left taken h)
moved_stop grammar all left taken stop.TooDeep h =
    h ∙ ap (λ (xs : List Lexeme). Out.out End.deep xs) (left_there grammar End.deep all left taken h)
moved_stop grammar all left taken stop.NoMemory h = tt

pub moved_dec : (grammar : g (Decs FullDec)) (all left : List Lexeme) (taken : ℕ) (made : Result (Tall FullDec) Stop)
    (fs : Fixities) → ReadsDec grammar (drop taken all) made fs left
    → ReadsDec grammar (drop taken all) made fs (drop (length all - length left) all)
moved_dec grammar all left taken (Ok dec) fs h =
    h ∙ ap (λ (xs : List Lexeme). Out.out (End.whole (declares dec fs)) xs)
    (left_there grammar (End.whole (declares dec fs)) all left taken h)
moved_dec grammar all left taken (Err why) fs h = moved_stop grammar all left taken why h

pub moved : {A : Type 0} (grammar : g A) (all left : List Lexeme) (taken : ℕ) (made : Result A Stop)
    → Reads grammar (drop taken all) made left
    → Reads grammar (drop taken all) made (drop (length all - length left) all)
moved grammar all left taken (Ok value) h =
    h ∙ ap (λ (xs : List Lexeme). Out.out (End.whole value) xs) (left_there grammar (End.whole value) all left taken h)
moved grammar all left taken (Err why) h = moved_stop grammar all left taken why h

-- ---- scopes

pub mark_set : (fs : Fixities) (scopes : List Scope) (scope : Scope) → 0 < length scopes
    → scope ≡ slice_index_or scopes (length scopes - 1) scope
    → set scopes (length scopes - 1) (record { start = scope.start; kept = Some (length fs) }) ≡ mark_last fs scopes
mark_set fs [] scope h is = absurd (omega arith)
mark_set fs (last ∷ []) scope h is = ap (λ (s : Scope). marked s fs ∷ []) is
mark_set fs (outer ∷ inner ∷ scopes) scope h is =
    let more : length (outer ∷ inner ∷ scopes) - 1 ≡ suc (length (inner ∷ scopes) - 1) = omega arith in
    let found : scope ≡ slice_index_or (inner ∷ scopes) (length (inner ∷ scopes) - 1) scope = rw more at is in
    rw more (ap (λ (ss : List Scope). outer ∷ ss) (mark_set fs (inner ∷ scopes) scope (omega arith) found))

-- ---- answers

run : {A : Type 0} (grammar : g A) (e : End A) (rest left : List Lexeme) → read grammar rest ≡ Out.out e left
    → LongestRun grammar e rest left
run grammar e rest left h =
    let one = sound grammar rest e left h in
    record { run = one.0; text = one.1; ends = one.2; longest = place grammar e rest left h }

last_is : (file : List ℕ) (found : Option Lexeme)
    → fault_of file (refused_at found) ≡ fault.Diag (record { number = 20; at = place_of file found; names = [] })
last_is file None = refl
last_is file (Some x) = refl

refusal_is : (file : List ℕ) (all left : List Lexeme)
    → fault_of file (refused_before all left) ≡ fault.Diag (refusal file all left)
refusal_is file all [] = last_is file (slice_get all (length all - 1))
refusal_is file all (x ∷ left) = refl

refused_answer : {A : Type 0} (grammar : g A) (old : CursorState) (stopped : Stop) (left : List Lexeme)
    → Stops stopped (read grammar old.rest) left
    → Refuses grammar old.file old.all old.rest (fault_of old.file (failure_of old.all stopped left))
refused_answer grammar old stop.Refused left h =
    subst (λ (f : Fault). Refuses grammar old.file old.all old.rest f) (sym (refusal_is old.file old.all left))
    (inl (left, run grammar End.refused old.rest left h, refl))
refused_answer grammar old stop.TooDeep left h = inr (left, run grammar End.deep old.rest left h, refl)
refused_answer grammar old stop.NoMemory left h = tt

-- what a cursor answers that fails
failed_answer : {A : Type 0} (grammar : g A) (old now : CursorState) (stopped : Stop) (left : List Lexeme)
    (given : Fault) → Stops stopped (read grammar old.rest) left → FailsBefore stopped left old given now
    → Refuses grammar old.file old.all old.rest given
failed_answer grammar old now stopped left given h (failure, has, faults, inl so) =
    subst (λ (f : Fault). Refuses grammar old.file old.all old.rest f)
    (ap (fault_of old.file) (sym so) ∙ sym faults) (refused_answer grammar old stopped left h)
failed_answer grammar old now stopped left given h (failure, has, faults, inr none) =
    subst (λ (f : Fault). Refuses grammar old.file old.all old.rest f)
    (ap (fault_of old.file) (sym none) ∙ sym faults) tt

failed_with : (old now : CursorState) (stopped : Stop) (left : List Lexeme) (given : Fault)
    → FailsBefore stopped left old given now → FailsWith given old now
failed_with old now stopped left given (failure, has, faults, so) = (failure, has, faults)

-- a cursor of other infix status fails as this does
failed_as : (fs : Fixities) (old now : CursorState) (stopped : Stop) (left : List Lexeme) (given : Fault)
    → FailsBefore stopped left (scoped fs old.scopes old) given now → FailsBefore stopped left old given now
failed_as fs old now stopped left given (failure, has, faults, so) = (
  failure,
  record {
    file = has.file;
    all = has.all;
    rest = has.rest;
    scopes = has.scopes;
    nest = has.nest;
    failed = has.failed;
  },
  faults,
  so,
)

pub answers : {A : Type 0} (grammar : g (Tall A)) (old now : CursorState) (made : Result (Tall A) Stop)
    (left : List Lexeme) (result : Result A Fault) → Reads grammar old.rest made left → Settles made left old result now
    → ParsesHere grammar old result now
answers {A} grammar old now (Ok tall) left result h (is, moves) =
    let there : left ≡ now.rest = sym (ap (λ (c : CursorState). c.rest) moves) in
    let longest = run grammar (End.whole tall) old.rest left h in
    let answer : Answers grammar old.file old.all old.rest (Ok tall.tree) left = (tall.height, longest) in
    subst (λ (r : Result A Fault). ParsesHere grammar old r now) (sym is) (
      subst (λ (xs : List Lexeme). Answers grammar old.file old.all old.rest (Ok tall.tree) xs) there answer,
      subst (λ (xs : List Lexeme). now ≡ before xs old) there moves,
    )
answers {A} grammar old now (Err stopped) left result h (given, is, fails) =
    subst (λ (r : Result A Fault). ParsesHere grammar old r now) (sym is)
    (failed_answer grammar old now stopped left given h fails, failed_with old now stopped left given fails)

-- what was settled at a cursor whose infix status changed for a while
pub settles_as : {A : Type 0} (fs : Fixities) (old now : CursorState) (made : Result (Tall A) Stop)
    (left : List Lexeme) (result : Result A Fault) → OnOk made (fs ≡ old.fixities)
    → Settles made left (scoped fs old.scopes old) result now → Settles made left old result now
settles_as fs old now (Ok tall) left result same (is, moves) =
    (is, moves ∙ ap (λ (held : Fixities). before left (scoped held old.scopes old)) same)
settles_as fs old now (Err stopped) left result same (given, is, fails) =
    (given, is, failed_as fs old now stopped left given fails)

-- the same of a declaration, which changes infix status
pub answers_dec : (grammar : g (Decs FullDec)) (fs : Fixities) (old now : CursorState) (made : Result (Tall FullDec) Stop)
    (left : List Lexeme) (result : Result FullDec Fault) → ReadsDec grammar old.rest made fs left
    → Settles made left (scoped fs old.scopes old) result now → ParsesDecHere grammar old result now
answers_dec grammar fs old now (Ok tall) left result h (is, moves) =
    let there : left ≡ now.rest = sym (ap (λ (c : CursorState). c.rest) moves) in
    let bound : fs ≡ now.fixities = sym (ap (λ (c : CursorState). c.fixities) moves) in
    let longest = run grammar (End.whole (declares tall fs)) old.rest left h in
    let answer : AnswersDec grammar old.file old.all old.rest (Ok tall.tree) fs left = (tall.height, longest) in
    subst (λ (r : Result FullDec Fault). ParsesDecHere grammar old r now) (sym is) (
      subst (λ (xs : List Lexeme). AnswersDec grammar old.file old.all old.rest (Ok tall.tree) now.fixities xs) there
          (subst (λ (held : Fixities). AnswersDec grammar old.file old.all old.rest (Ok tall.tree) held left) bound answer),
      subst (λ (xs : List Lexeme). now ≡ before xs (scoped now.fixities old.scopes old)) there
          (subst (λ (held : Fixities). now ≡ before left (scoped held old.scopes old)) bound moves),
    )
answers_dec grammar fs old now (Err stopped) left result h (given, is, fails) =
    let same = failed_as fs old now stopped left given fails in
    subst (λ (r : Result FullDec Fault). ParsesDecHere grammar old r now) (sym is)
    (failed_answer grammar old now stopped left given h same, failed_with old now stopped left given same)
