-- The reserved words and marks of the language (The Definition of Standard ML, sections 2.1 and 3.1; `funsig` is a
-- reserved word of SML/NJ).
use Rattle.std.specs.Prelude.{ℕ, Bool, Option, None, Some, List, nat_eq, if◌then◌else◌, codes}
use denote.Enum.Bare.{sameb}
use lib.Pointwise.{pointwise}
use Rattle.sml_lexer.specs.contracts.words.Word.{the_type}
use Rattle.sml_lexer.specs.declared.words.Word.{Word}
use Rattle.sml_lexer.specs.declared.words.Word.TheVariants as w

-- whether a word is that word
unfoldable pub same_word : Word → Word → Bool
same_word = sameb the_type

-- the mark that a text is, if it is one
unfoldable pub mark : List ℕ → Option Word
mark text =
    if pointwise nat_eq text (codes "(") then Some w.Open
    else (if pointwise nat_eq text (codes ")") then Some w.Close
    else (if pointwise nat_eq text (codes "[") then Some w.OpenBracket
    else (if pointwise nat_eq text (codes "]") then Some w.CloseBracket
    else (if pointwise nat_eq text (codes "{") then Some w.OpenBrace
    else (if pointwise nat_eq text (codes "}") then Some w.CloseBrace
    else (if pointwise nat_eq text (codes ",") then Some w.Comma
    else (if pointwise nat_eq text (codes ":") then Some w.Colon
    else (if pointwise nat_eq text (codes ":>") then Some w.Seal
    else (if pointwise nat_eq text (codes ";") then Some w.Semicolon
    else (if pointwise nat_eq text (codes "...") then Some w.Dots
    else (if pointwise nat_eq text (codes "_") then Some w.Wild
    else (if pointwise nat_eq text (codes "|") then Some w.Bar
    else (if pointwise nat_eq text (codes "=") then Some w.Equals
    else (if pointwise nat_eq text (codes "=>") then Some w.DoubleArrow
    else (if pointwise nat_eq text (codes "->") then Some w.Arrow
    else (if pointwise nat_eq text (codes "#") then Some w.Hash
    else None))))))))))))))))

-- the reserved word from `abstype` to `do` that a text is, if it is one
unfoldable pub a_to_d : List ℕ → Option Word
a_to_d text =
    if pointwise nat_eq text (codes "abstype") then Some w.AbsType
    else (if pointwise nat_eq text (codes "and") then Some w.And
    else (if pointwise nat_eq text (codes "andalso") then Some w.AndAlso
    else (if pointwise nat_eq text (codes "as") then Some w.As
    else (if pointwise nat_eq text (codes "case") then Some w.Case
    else (if pointwise nat_eq text (codes "datatype") then Some w.Datatype
    else (if pointwise nat_eq text (codes "do") then Some w.Do
    else None))))))

-- the reserved word from `else` to `funsig` that a text is, if it is one
unfoldable pub e_to_f : List ℕ → Option Word
e_to_f text =
    if pointwise nat_eq text (codes "else") then Some w.Else
    else (if pointwise nat_eq text (codes "end") then Some w.End
    else (if pointwise nat_eq text (codes "eqtype") then Some w.EqType
    else (if pointwise nat_eq text (codes "exception") then Some w.Exception
    else (if pointwise nat_eq text (codes "fn") then Some w.Fn
    else (if pointwise nat_eq text (codes "fun") then Some w.Fun
    else (if pointwise nat_eq text (codes "functor") then Some w.Functor
    else (if pointwise nat_eq text (codes "funsig") then Some w.Funsig
    else None)))))))

-- the reserved word from `handle` to `nonfix` that a text is, if it is one
unfoldable pub h_to_n : List ℕ → Option Word
h_to_n text =
    if pointwise nat_eq text (codes "handle") then Some w.Handle
    else (if pointwise nat_eq text (codes "if") then Some w.If
    else (if pointwise nat_eq text (codes "in") then Some w.In
    else (if pointwise nat_eq text (codes "include") then Some w.Include
    else (if pointwise nat_eq text (codes "infix") then Some w.Infix
    else (if pointwise nat_eq text (codes "infixr") then Some w.Infixr
    else (if pointwise nat_eq text (codes "let") then Some w.Let
    else (if pointwise nat_eq text (codes "local") then Some w.Local
    else (if pointwise nat_eq text (codes "nonfix") then Some w.Nonfix
    else None))))))))

-- the reserved word from `of` to `structure` that a text is, if it is one
unfoldable pub o_to_s : List ℕ → Option Word
o_to_s text =
    if pointwise nat_eq text (codes "of") then Some w.Of
    else (if pointwise nat_eq text (codes "op") then Some w.Op
    else (if pointwise nat_eq text (codes "open") then Some w.OpenWord
    else (if pointwise nat_eq text (codes "orelse") then Some w.OrElse
    else (if pointwise nat_eq text (codes "raise") then Some w.Raise
    else (if pointwise nat_eq text (codes "rec") then Some w.Rec
    else (if pointwise nat_eq text (codes "sharing") then Some w.Sharing
    else (if pointwise nat_eq text (codes "sig") then Some w.Sig
    else (if pointwise nat_eq text (codes "signature") then Some w.Signature
    else (if pointwise nat_eq text (codes "struct") then Some w.Struct
    else (if pointwise nat_eq text (codes "structure") then Some w.Structure
    else None))))))))))

-- the reserved word from `then` to `withtype` that a text is, if it is one
unfoldable pub t_to_w : List ℕ → Option Word
t_to_w text =
    if pointwise nat_eq text (codes "then") then Some w.Then
    else (if pointwise nat_eq text (codes "type") then Some w.TypeWord
    else (if pointwise nat_eq text (codes "val") then Some w.Val
    else (if pointwise nat_eq text (codes "where") then Some w.Where
    else (if pointwise nat_eq text (codes "while") then Some w.While
    else (if pointwise nat_eq text (codes "with") then Some w.With
    else (if pointwise nat_eq text (codes "withtype") then Some w.WithType
    else None))))))

-- the first of two, or else the second
abbrev pub or_else : {A : Type 0} → Option A → Option A → Option A
or_else None other = other
or_else (Some found) other = Some found

-- the reserved word or mark that a text spells
unfoldable pub word_of : List ℕ → Option Word
word_of text =
    or_else (mark text) (or_else (a_to_d text) (or_else (e_to_f text)
    (or_else (h_to_n text) (or_else (o_to_s text) (t_to_w text)))))
