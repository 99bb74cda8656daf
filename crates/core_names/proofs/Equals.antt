-- The name `=`, which is a reserved word too, fits.
use Rattle.std.proofs.Common.{◌≡◌, ℕ, Bool, true, false, List, [], ◌∷◌, Option, Some, None, refl, subst, sym, if◌then◌else◌, arith}
use Rattle.std.specs.Prelude.{nat_eq, codes}
use lib.Pointwise.{pointwise, bytes_decides}
use Rattle.sml_lexer.specs.declared.lexeme.Lexeme.{Lexeme}
use Rattle.sml_lexer.specs.declared.lexeme.LexemeKind.{LexemeKind}
use Rattle.sml_lexer.specs.declared.lexeme.LexemeKind.TheVariants as k
use Rattle.sml_lexer.specs.declared.words.Word.{Word}
use Rattle.sml_lexer.specs.declared.words.Word.TheVariants as w
use Rattle.sml_lexer.specs.Words.{mark, a_to_d, e_to_f, h_to_n, o_to_s, t_to_w, or_else, word_of}
use Rattle.expression_parts.specs.ExpStarts.{if_equals, infix_name_in, infix_name, alone, op_parts_in, op_parts}
use Rattle.phrase_reading.specs.Words.{name_in, long_in}
use Rattle.lexeme_laws.specs.Limits.{IsWithinLimits}
use Rattle.fitting_names.proofs.Texts.{FitText}
use Rattle.body_laws.proofs.Signatures.{Each, both-true}
use Rattle.fitting_names.specs.Names.{text_fits}
use Rattle.core_names.proofs.Keeping.{Good, IfAny}
use Rattle.core_names.proofs.Named.{FitParts, name_of_fits, long_of_fits}

-- the word of the first test that holds
abbrev chosen : List (Bool × Word) → Option Word
chosen [] = None
chosen (p ∷ rest) = if p.0 then Some p.1 else chosen rest

-- where the word of a test that holds is `=`, the text fits
abbrev FitsFor : List ℕ → Bool × Word → Type 0
FitsFor text p = IfAny (λ name. p.0 ≡ true → FitText name) (if_equals (Some p.1) text)

where_true : (o : Option (List ℕ)) → IfAny (λ name. true ≡ true → FitText name) o → IfAny FitText o
where_true None is = tt
where_true (Some name) is = is refl

step_fits : (b : Bool) (v : Word) (rest : Option Word) (text : List ℕ) → FitsFor text (b, v)
    → IfAny FitText (if_equals rest text) → IfAny FitText (if_equals (if b then Some v else rest) text)
step_fits true v rest text first second = where_true (if_equals (Some v) text) first
step_fits false v rest text first second = second

chosen_fits : (text : List ℕ) (tests : List (Bool × Word)) → Each (FitsFor text) tests
    → IfAny FitText (if_equals (chosen tests) text)
chosen_fits text [] all = tt
chosen_fits text (p ∷ rest) all = step_fits p.0 p.1 (chosen rest) text all.0 (chosen_fits text rest all.1)

either_fits : (o rest : Option Word) (text : List ℕ) → IfAny FitText (if_equals o text)
    → IfAny FitText (if_equals rest text) → IfAny FitText (if_equals (or_else o rest) text)
either_fits None rest text first second = second
either_fits (Some v) rest text first second = first

same_text : (text : List ℕ) → pointwise nat_eq text (codes "=") ≡ true → FitText text
same_text text h = subst FitText (sym ((bytes_decides text (codes "=")).0 h)) refl

-- a test of a text
abbrev test : List ℕ → List ℕ → Word → Bool × Word
test text spelled v = (pointwise nat_eq text spelled, v)

mark_fits : (text : List ℕ) → IfAny FitText (if_equals (mark text) text)
unfolding mark
mark_fits text =
    chosen_fits text (
    test text (codes "(") w.Open ∷
    test text (codes ")") w.Close ∷
    test text (codes "[") w.OpenBracket ∷
    test text (codes "]") w.CloseBracket ∷
    test text (codes "{") w.OpenBrace ∷
    test text (codes "}") w.CloseBrace ∷
    test text (codes ",") w.Comma ∷
    test text (codes ":") w.Colon ∷
    test text (codes ":>") w.Seal ∷
    test text (codes ";") w.Semicolon ∷
    test text (codes "...") w.Dots ∷
    test text (codes "_") w.Wild ∷
    test text (codes "|") w.Bar ∷
    test text (codes "=") w.Equals ∷
    test text (codes "=>") w.DoubleArrow ∷
    test text (codes "->") w.Arrow ∷
    test text (codes "#") w.Hash ∷
    [])
    (tt, (tt, (tt, (tt, (tt, (tt, (tt, (tt, (tt, (tt, (tt, (tt, (tt, (same_text text, (tt, (tt, (tt, tt)))))))))))))))))

a_to_d_fits : (text : List ℕ) → IfAny FitText (if_equals (a_to_d text) text)
unfolding a_to_d
a_to_d_fits text =
    chosen_fits text (
    test text (codes "abstype") w.AbsType ∷
    test text (codes "and") w.And ∷
    test text (codes "andalso") w.AndAlso ∷
    test text (codes "as") w.As ∷
    test text (codes "case") w.Case ∷
    test text (codes "datatype") w.Datatype ∷
    test text (codes "do") w.Do ∷
    [])
    (tt, (tt, (tt, (tt, (tt, (tt, (tt, tt)))))))

e_to_f_fits : (text : List ℕ) → IfAny FitText (if_equals (e_to_f text) text)
unfolding e_to_f
e_to_f_fits text =
    chosen_fits text (
    test text (codes "else") w.Else ∷
    test text (codes "end") w.End ∷
    test text (codes "eqtype") w.EqType ∷
    test text (codes "exception") w.Exception ∷
    test text (codes "fn") w.Fn ∷
    test text (codes "fun") w.Fun ∷
    test text (codes "functor") w.Functor ∷
    test text (codes "funsig") w.Funsig ∷
    [])
    (tt, (tt, (tt, (tt, (tt, (tt, (tt, (tt, tt))))))))

h_to_n_fits : (text : List ℕ) → IfAny FitText (if_equals (h_to_n text) text)
unfolding h_to_n
h_to_n_fits text =
    chosen_fits text (
    test text (codes "handle") w.Handle ∷
    test text (codes "if") w.If ∷
    test text (codes "in") w.In ∷
    test text (codes "include") w.Include ∷
    test text (codes "infix") w.Infix ∷
    test text (codes "infixr") w.Infixr ∷
    test text (codes "let") w.Let ∷
    test text (codes "local") w.Local ∷
    test text (codes "nonfix") w.Nonfix ∷
    [])
    (tt, (tt, (tt, (tt, (tt, (tt, (tt, (tt, (tt, tt)))))))))

o_to_s_fits : (text : List ℕ) → IfAny FitText (if_equals (o_to_s text) text)
unfolding o_to_s
o_to_s_fits text =
    chosen_fits text (
    test text (codes "of") w.Of ∷
    test text (codes "op") w.Op ∷
    test text (codes "open") w.OpenWord ∷
    test text (codes "orelse") w.OrElse ∷
    test text (codes "raise") w.Raise ∷
    test text (codes "rec") w.Rec ∷
    test text (codes "sharing") w.Sharing ∷
    test text (codes "sig") w.Sig ∷
    test text (codes "signature") w.Signature ∷
    test text (codes "struct") w.Struct ∷
    test text (codes "structure") w.Structure ∷
    [])
    (tt, (tt, (tt, (tt, (tt, (tt, (tt, (tt, (tt, (tt, (tt, tt)))))))))))

t_to_w_fits : (text : List ℕ) → IfAny FitText (if_equals (t_to_w text) text)
unfolding t_to_w
t_to_w_fits text =
    chosen_fits text (
    test text (codes "then") w.Then ∷
    test text (codes "type") w.TypeWord ∷
    test text (codes "val") w.Val ∷
    test text (codes "where") w.Where ∷
    test text (codes "while") w.While ∷
    test text (codes "with") w.With ∷
    test text (codes "withtype") w.WithType ∷
    [])
    (tt, (tt, (tt, (tt, (tt, (tt, (tt, tt)))))))

word_fits : (text : List ℕ) → IfAny FitText (if_equals (word_of text) text)
unfolding word_of
word_fits text =
    either_fits (mark text) _ text (mark_fits text) (either_fits (a_to_d text) _ text (a_to_d_fits text)
    (either_fits (e_to_f text) _ text (e_to_f_fits text) (either_fits (h_to_n text) _ text (h_to_n_fits text)
    (either_fits (o_to_s text) _ text (o_to_s_fits text) (t_to_w_fits text)))))

infix_in_fits : (kind : LexemeKind) → IsWithinLimits kind → IfAny FitText (name_in kind)
    → IfAny FitText (infix_name_in kind)
infix_in_fits (k.Reserved text) good is = word_fits text
infix_in_fits (k.Name parts) good is = is
infix_in_fits (k.TyVar text) good is = tt
infix_in_fits (k.Int value ok) good is = tt
infix_in_fits (k.Str text) good is = tt
infix_in_fits (k.Char byte) good is = tt

-- the name that a lexeme is, where it may be infix
pub infix_name_fits : (x : Lexeme) → Good x → IfAny FitText (infix_name x)
infix_name_fits x good = infix_in_fits x.kind good (name_of_fits x good)

alone_fits : (o : Option (List ℕ)) → IfAny FitText o → IfAny FitParts (alone o)
alone_fits None is = tt
alone_fits (Some text) is = record { some = omega arith; each = both-true (text_fits text) true is refl }

op_in_fits : (kind : LexemeKind) → IfAny FitParts (long_in kind) → IfAny FitParts (op_parts_in kind)
op_in_fits (k.Reserved text) is = alone_fits (if_equals (word_of text) text) (word_fits text)
op_in_fits (k.Name parts) is = is
op_in_fits (k.TyVar text) is = tt
op_in_fits (k.Int value ok) is = tt
op_in_fits (k.Str text) is = tt
op_in_fits (k.Char byte) is = tt

-- .. where it may stand behind `op`
pub op_parts_fit : (x : Lexeme) → Good x → IfAny FitParts (op_parts x)
op_parts_fit x good = op_in_fits x.kind (long_of_fits x good)
