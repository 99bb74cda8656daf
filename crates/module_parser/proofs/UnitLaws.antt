-- What is answered of the lexemes of a text: it is what is parsed of them, and so it is determined.
use Rattle.std.proofs.Common.{◌≡◌, ℕ, ◌⊎◌, inl, inr, List, [], ◌∷◌, Some, None, Result, Ok, Err, refl, sym, ap, subst, ◌∙◌}
use Rattle.std.proofs.lemmas.List.{append-nil}
use Rattle.cm_base.specs.Calls.{Gives}
use Rattle.cm_base.specs.Diags.{whole_file}
use Rattle.cm_base.specs.declared.diag.Diag.{Diag}
use Rattle.cm_base.specs.declared.fault.Fault.{Fault}
use Rattle.cm_base.specs.declared.fault.Fault.TheVariants as fault
use Rattle.grammars.specs.Grammar.{End, Ends, head_or}
use Rattle.grammars.specs.Reading.{Out, read}
use Rattle.grammars.proofs.Complete.{complete}
use Rattle.grammars.proofs.Sound.{sound}
use Rattle.grammars.proofs.Fronts.{place}
use Rattle.sml_lexer.specs.Lexing.{lexemes_of}
use Rattle.sml_lexer.specs.declared.lexeme.Lexeme.{Lexeme}
use Rattle.sml_trees.specs.declared.full_unit.FullTopDec.{FullTopDec}
use Rattle.sml_trees.specs.declared.full_unit.FullUnit.{FullUnit}
use Rattle.phrase_reading.specs.Refusals.{LongestRun, refusal}
use Rattle.phrase_reading.specs.Reads.{Stops}
use Rattle.phrase_reading.specs.Words.{g}
use Rattle.phrase_reading.specs.declared.stop.Stop.{Stop}
use Rattle.phrase_reading.specs.declared.stop.Stop.TheVariants as stop
use Rattle.phrase_reading.specs.declared.tall.Tall.{Tall}
use Rattle.module_parser.specs.Answers.{AnswersLexemes, AnswersUnit, StopsWith}
use Rattle.module_parser.specs.Laws.{OneUnit, UnitHasNoDiagnostic, OneDiagnostic, UnitsAreParsed, DiagnosticsAreParsed}
use Rattle.module_parser.specs.Parsing.{parsed, parsed_lexemes, parsed_unit}
use Rattle.module_parser.specs.Units.{topdecs, top_refusal, IsUnit, IsCutShort, IsTooDeep, IsBehindUnit, IsFirstDiagnostic}

-- ---- from the reader to the relation

run : {A : Type 0} (grammar : g A) (e : End A) (rest left : List Lexeme) → read grammar rest ≡ Out.out e left
    → LongestRun grammar e rest left
run grammar e rest left h =
    let one = sound grammar rest e left h in
    record { run = one.0; text = one.1; ends = one.2; longest = place grammar e rest left h }

-- reading stopped
pub stopped : (file : List ℕ) (all left : List Lexeme) (why : Stop) (given : Fault) → Stops why (read topdecs all) left
    → StopsWith file why all left given → AnswersLexemes file all (Err given)
stopped file all left stop.Refused (fault.Diag diag) h is = inl (left, run topdecs End.refused all left h, is)
stopped file all left stop.TooDeep (fault.Diag diag) h is = inr (inl (left, run topdecs End.deep all left h, is))
stopped file all left stop.NoMemory (fault.Diag diag) h is = absurd is
stopped file all left why fault.NoMemory h is = tt

-- a whole unit, and a lexeme behind it
pub behind : (file : List ℕ) (all left : List Lexeme) (made : Tall (List FullTopDec)) (x : Lexeme) (diag : Diag)
    → read topdecs all ≡ Out.out (End.whole made) left → head_or left None ≡ Some x → diag ≡ top_refusal file x
    → AnswersLexemes file all (Err (fault.Diag diag))
behind file all [] made x diag h is so = absurd (cc)
behind file all (y ∷ left) made x diag h is so =
    let same : y ≡ x = cc in
    inr (inr (
      made,
      y,
      left,
      run topdecs (End.whole made) all (y ∷ left) h,
      so ∙ ap (top_refusal file) (sym same),
    ))

-- a whole unit, and nothing behind it
pub whole : (file name : List ℕ) (all left : List Lexeme) (made : Tall (List FullTopDec))
    → read topdecs all ≡ Out.out (End.whole made) left → head_or left None ≡ None → name ≡ file
    → AnswersLexemes file all (Ok (record { file = name; topdecs = made.tree }))
whole file name all (y ∷ left) made h is so = absurd (cc)
whole file name all [] made h is so =
    let one = sound topdecs all (End.whole made) [] h in
    let same : one.0 ≡ all = sym (one.1 ∙ append-nil one.0) in
    (made.height, subst (λ (xs : List Lexeme). Ends topdecs (End.whole made) xs None) same one.2, so)

-- ---- what is parsed of a text

read_run : {A : Type 0} (grammar : g A) (e : End A) (rest left : List Lexeme) → LongestRun grammar e rest left
    → read grammar rest ≡ Out.out e left
read_run grammar e rest left it =
    ap (read grammar) it.text ∙ complete grammar e it.run left it.ends

read_phrase : (all : List Lexeme) (made : Tall (List FullTopDec)) → Ends topdecs (End.whole made) all None
    → read topdecs all ≡ Out.out (End.whole made) []
read_phrase all made h =
    ap (read topdecs) (sym (append-nil all)) ∙ complete topdecs (End.whole made) all [] h

abbrev IsRefused : List ℕ → List Lexeme → Diag → Type 0
IsRefused file lexemes diag = IsCutShort file lexemes diag ⊎ (IsTooDeep file lexemes diag ⊎ IsBehindUnit file lexemes diag)

refused_is_parsed : (file : List ℕ) (all : List Lexeme) (diag : Diag) → IsRefused file all diag
    → parsed file all (read topdecs all) ≡ Err diag
refused_is_parsed file all diag (inl (left, it, is)) =
    ap (parsed file all) (read_run topdecs End.refused all left it) ∙ ap (λ (d : Diag). Err d) (sym is)
refused_is_parsed file all diag (inr (inl (left, it, is))) =
    ap (parsed file all) (read_run topdecs End.deep all left it) ∙ ap (λ (d : Diag). Err d) (sym is)
refused_is_parsed file all diag (inr (inr (unit, x, left, it, is))) =
    ap (parsed file all) (read_run topdecs (End.whole unit) all (x ∷ left) it) ∙ ap (λ (d : Diag). Err d) (sym is)

abbrev unit_with : List FullTopDec → List ℕ → FullUnit
unit_with topdecs file = record { file = file; topdecs = topdecs }

-- a text that is a unit is parsed as it
pub unit_is_parsed : (file source : List ℕ) (unit : FullUnit) → IsUnit file source unit
    → parsed_unit file source ≡ Ok unit
unfolding parsed_unit
unit_is_parsed file source unit (xs, lexed, height, phrase, named) =
    ap (parsed_lexemes file) lexed
    ∙ ap (parsed file xs) (read_phrase xs (record { tree = unit.topdecs; height = height }) phrase)
    ∙ ap (λ (name : List ℕ). Ok (unit_with unit.topdecs name)) (sym named)

-- a text that has a first diagnostic is parsed with it
pub diagnostic_is_parsed : (file source : List ℕ) (diag : Diag) → IsFirstDiagnostic file source diag
    → parsed_unit file source ≡ Err diag
unfolding parsed_unit
diagnostic_is_parsed file source diag (inl lexical) = ap (parsed_lexemes file) lexical
diagnostic_is_parsed file source diag (inr (xs, lexed, it)) =
    ap (parsed_lexemes file) lexed ∙ refused_is_parsed file xs diag it

-- .. so whatever may be answered is what is parsed
pub parses : (file source : List ℕ) (result : Result FullUnit Fault) → AnswersUnit file source result
    → Gives result (parsed_unit file source)
parses file source (Ok unit) it = unit_is_parsed file source unit it
parses file source (Err (fault.Diag diag)) it = diagnostic_is_parsed file source diag it
parses file source (Err fault.NoMemory) it = tt

-- ---- and back

-- what is parsed, as an answer
abbrev answer : Result FullUnit Diag → Result FullUnit Fault
answer (Ok unit) = Ok unit
answer (Err diag) = Err (fault.Diag diag)

read_is_answered : (file : List ℕ) (all : List Lexeme) (o : Out Lexeme (Tall (List FullTopDec))) → read topdecs all ≡ o
    → AnswersLexemes file all (answer (parsed file all o))
read_is_answered file all (Out.out (End.whole made) []) h = whole file file all [] made h refl refl
read_is_answered file all (Out.out (End.whole made) (x ∷ left)) h = behind file all (x ∷ left) made x (top_refusal file x) h refl refl
read_is_answered file all (Out.out End.refused left) h =
    stopped file all left stop.Refused (fault.Diag (refusal file all left)) h refl
read_is_answered file all (Out.out End.deep left) h =
    stopped file all left stop.TooDeep (fault.Diag (whole_file 12 file)) h refl

lexed_is_answered : (file source : List ℕ) (xs : List Lexeme) (r : Result FullUnit Fault) → lexemes_of file source ≡ Ok xs
    → AnswersLexemes file xs r → AnswersUnit file source r
lexed_is_answered file source xs (Ok unit) h (height, phrase, named) = (xs, h, height, phrase, named)
lexed_is_answered file source xs (Err (fault.Diag diag)) h it = inr (xs, h, it)
lexed_is_answered file source xs (Err fault.NoMemory) h it = tt

parsed_lexemes_answered : (file source : List ℕ) (lexed : Result (List Lexeme) Diag) → lexemes_of file source ≡ lexed
    → AnswersUnit file source (answer (parsed_lexemes file lexed))
parsed_lexemes_answered file source (Ok xs) h =
    lexed_is_answered file source xs (answer (parsed file xs (read topdecs xs))) h
    (read_is_answered file xs (read topdecs xs) refl)
parsed_lexemes_answered file source (Err diag) h = inl h

-- what is parsed may be answered
pub parsed_is_answered : (file source : List ℕ) → AnswersUnit file source (answer (parsed_unit file source))
unfolding parsed_unit
parsed_is_answered file source = parsed_lexemes_answered file source (lexemes_of file source) refl

pub parsed_is_unit : (file source : List ℕ) (unit : FullUnit) → parsed_unit file source ≡ Ok unit → IsUnit file source unit
parsed_is_unit file source unit h =
    subst (λ (r : Result FullUnit Diag). AnswersUnit file source (answer r)) h (parsed_is_answered file source)

pub parsed_is_diagnostic : (file source : List ℕ) (diag : Diag) → parsed_unit file source ≡ Err diag
    → IsFirstDiagnostic file source diag
parsed_is_diagnostic file source diag h =
    subst (λ (r : Result FullUnit Diag). AnswersUnit file source (answer r)) h (parsed_is_answered file source)

pub units_are_parsed : UnitsAreParsed
units_are_parsed file source unit = (unit_is_parsed file source unit, parsed_is_unit file source unit)

pub diagnostics_are_parsed : DiagnosticsAreParsed
diagnostics_are_parsed file source diag = (diagnostic_is_parsed file source diag, parsed_is_diagnostic file source diag)

-- ---- what is parsed is one answer

ok_is : {A B : Type 0} (r : Result A B) (a b : A) → r ≡ Ok a → r ≡ Ok b → a ≡ b
ok_is {A} {B} r a b h k = let same : ◌≡◌ {A = Result A B} (Ok a) (Ok b) = sym h ∙ k in cc

err_is : {A B : Type 0} (r : Result A B) (a b : B) → r ≡ Err a → r ≡ Err b → a ≡ b
err_is {A} {B} r a b h k = let same : ◌≡◌ {A = Result A B} (Err a) (Err b) = sym h ∙ k in cc

not_both : {A B : Type 0} (r : Result A B) (a : A) (b : B) → r ≡ Ok a → r ≡ Err b → ⊥
not_both {A} {B} r a b h k = let same : ◌≡◌ {A = Result A B} (Ok a) (Err b) = sym h ∙ k in absurd (cc)

pub one_unit : OneUnit
one_unit file source one other is is_other =
    ok_is (parsed_unit file source) one other (unit_is_parsed file source one is) (unit_is_parsed file source other is_other)

pub unit_or_diagnostic : UnitHasNoDiagnostic
unit_or_diagnostic file source unit diag is refused =
    not_both (parsed_unit file source) unit diag (unit_is_parsed file source unit is)
    (diagnostic_is_parsed file source diag refused)

pub one_diagnostic : OneDiagnostic
one_diagnostic file source one other is is_other =
    err_is (parsed_unit file source) one other (diagnostic_is_parsed file source one is)
    (diagnostic_is_parsed file source other is_other)
