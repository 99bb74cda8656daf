-- Numbers and the four bytes that they are, and the texts behind them.
use Rattle.std.proofs.Common.{◌≡◌, ◌≢◌, ℕ, ◌<◌, sym, ap, ◌∙◌, List, length, get_or, Option, Some, None}
use Rattle.std.proofs.lemmas.Nat.{be_bytes_4}
use Rattle.std.specs.Int.{w32, from_be_bytes}
use Rattle.cm_bytes.specs.Fields.{u32_of}
use Rattle.cm_bytes.proofs.Fields.{length-u32_of}
use Rattle.node_bytes.specs.Nodes.{Node, Content}
use Rattle.node_bytes.specs.Shapes.{with_number, with_text}
use Rattle.node_bytes.specs.Tables.{content_of}
use Rattle.node_bytes.specs.declared.table.Item.{Item}
use Rattle.interface_format.specs.Rules.{IsNumber}
use Rattle.interface_format.proofs.Told.{number_told}
use Rattle.row_fields.specs.Taking.{Begins, NeverBegins, Takes, itself, IsAny, IsText, SpellNumber}

pub four_are : (bytes : List ℕ) (n : ℕ) → length bytes ≡ 4 → ((i : ℕ) → get_or bytes i 0 < 256)
    → n ≡ from_be_bytes w32 bytes → bytes ≡ u32_of n
unfolding u32_of
four_are bytes n len below e = sym (be_bytes_4 bytes n len below e)

piece_parts : (s t : List ℕ) (c d : Content) → Content.piece s c ≡ Content.piece t d → (s ≡ t) × (c ≡ d)
piece_parts s t c d e = (cc, cc)

pub number_taken : (items rest : List Item) (text : List ℕ) (found : Option ℕ)
    → ((made : List Node) → Begins IsAny Content.piece made text items rest) → SpellNumber text found
    → Takes itself IsNumber with_number found items rest
number_taken items rest text (Some n) h s =
    λ made. record { fits = s.1; is = (h made).is ∙ ap (λ t. Content.piece t (content_of made rest)) s.0 }
number_taken items rest text None h s = record {
  never = λ made n c f e.
      s (ap length (piece_parts text (u32_of n) (content_of made rest) c (sym ((h made).is) ∙ e)).0 ∙ length-u32_of n);
}

pub text_never : (items middle rest : List Item) (n : ℕ) (text : List ℕ)
    → ((made : List Node) → Begins IsNumber with_number made n items middle)
    → ((made : List Node) → Begins IsAny Content.piece made text middle rest) → length text ≢ n
    → NeverBegins IsText with_text items
text_never items middle rest n text h k apart = record {
  never = λ made t c f e.
      let p = piece_parts (u32_of n) (u32_of (length t)) (content_of made middle) (Content.piece t c)
      (sym ((h made).is) ∙ e) in
      let q = piece_parts text t (content_of made rest) c (sym ((k made).is) ∙ p.1) in
      apart (ap length q.0 ∙ sym (number_told n (length t) (h made).fits f p.0));
}
