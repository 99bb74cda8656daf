-- What a reader of tokens may rely on: they stand in order, and each is a part of the text of its kind's spelling.
use Rattle.std.specs.Prelude.{ℕ, ◌≡◌, ◌≤◌, ◌-◌, true, List, [], ◌∷◌, ◌++◌, take, drop}
use Rattle.std.specs.List.{list_all}
use Rattle.cm_lexer.specs.Bytes.{is_word_byte, is_quotable, is_in_line}
use Rattle.cm_lexer.specs.Pieces.{is_directive}
use Rattle.cm_lexer.specs.declared.token.TokenKind.{TokenKind}
use Rattle.cm_lexer.specs.declared.token.TokenKind.TheVariants as kind
use Rattle.cm_lexer.specs.declared.token.Token.{Token}

-- each token begins where the one before it ends or further on, and none ends behind the text
abbrev pub AreInOrder : ℕ → ℕ → List Token → Type 0
AreInOrder from upto [] = from ≤ upto
AreInOrder from upto (token ∷ tokens) =
    (from ≤ token.start) × (token.start ≤ token.end) × AreInOrder token.end upto tokens

-- a text of this kind
abbrev pub IsSpelled : TokenKind → List ℕ → Type 0
IsSpelled kind.Word text = list_all is_word_byte text ≡ true
IsSpelled kind.Quoted text = (inside : List ℕ) × (text ≡ 34 ∷ (inside ++ 34 ∷ [])) ×
    (list_all is_quotable inside ≡ true)
IsSpelled kind.Colon text = text ≡ 58 ∷ []
IsSpelled kind.Open text = text ≡ 40 ∷ []
IsSpelled kind.Close text = text ≡ 41 ∷ []
IsSpelled kind.Directive text = (word : List ℕ) × (text ≡ 35 ∷ word) × (is_directive word ≡ true)
IsSpelled kind.Rest text = list_all is_in_line text ≡ true

-- the bytes of a token
abbrev pub slice_of : List ℕ → Token → List ℕ
slice_of text token = take (token.end - token.start) (drop token.start text)

abbrev pub AreSlices : List ℕ → List Token → Type 0
AreSlices text [] = Unit {0}
AreSlices text (token ∷ tokens) = IsSpelled token.kind (slice_of text token) × AreSlices text tokens
