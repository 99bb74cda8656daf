-- Type names and what owns them.
use Rattle.std.proofs.Common.{◌≡◌, ◌≢◌, ℕ, refl, sym, ap, subst, ◌∙◌, List, Bool, true, false}
use Rattle.node_bytes.specs.Nodes.{Node}
use Rattle.node_bytes.specs.Shapes.{with_byte, with_number, with_text}
use Rattle.node_bytes.specs.Tables.{content_of}
use Rattle.node_bytes.specs.declared.table.Item.{Item}
use Rattle.semantic_objects.specs.declared.name.Owner.TheVariants as owner
use Rattle.semantic_objects.specs.declared.name.TyName.{TyName}
use Rattle.semantic_objects.specs.Symbols.{same_text}
use Rattle.semantic_objects.proofs.Same.{text_is}
use Rattle.interface_format.specs.Rules.{HasText, IsNumber, IsTypeName}
use Rattle.interface_format.specs.Tags.{with_unit, with_owner, with_type_name}
use Rattle.row_fields.specs.Taking.{Begins, IsAny, IsText, with_flag}
use Rattle.row_fields.specs.Owning.{IsForeign}

pub text_differs : (home unit : List ℕ) (b : Bool) → same_text home unit ≡ b → unit ≢ home → b ≡ false
text_differs home unit true e apart = absurd (apart (sym (text_is home unit e)))
text_differs home unit false e apart = refl

pub foreign : (home unit : List ℕ) → unit ≢ home → IsText unit → IsForeign home unit
foreign home unit apart f =
    record { text = f; other = text_differs home unit (same_text home unit) refl apart }

pub unit_taken : (home unit copy : List ℕ) (made : List Node) (items rest : List Item)
    → Begins IsText with_text made unit items rest → copy ≡ unit → unit ≢ home
    → Begins (IsForeign home) with_text made copy items rest
unit_taken home unit copy made items rest b e apart =
    subst (λ u. Begins (IsForeign home) with_text made u items rest) (sym e)
    (record { fits = foreign home unit apart b.fits; is = b.is })

-- another unit owns a name
pub unit_owned : (home unit : List ℕ) (made : List Node) (items middle rest : List Item) (kind : ℕ) → kind ≡ 2
    → Begins IsAny with_byte made kind items middle → Begins (IsForeign home) with_text made unit middle rest
    → Begins HasText (with_owner home) made (owner.«Unit» unit) items rest
unit_owned home unit made items middle rest kind two b u = record {
  fits = u.fits.text;
  is = b.is ∙ ap (λ k. with_byte k (content_of made middle)) two ∙ ap (with_byte 2) u.is
      ∙ sym (ap (λ same. with_unit same unit (content_of made rest)) u.fits.other);
}

pub name_taken : (home : List ℕ) (name : TyName) (made : List Node) (a b c d e : List Item)
    → Begins HasText (with_owner home) made name.owner a b → Begins IsNumber with_number made name.number b c
    → Begins IsNumber with_number made name.arity c d → Begins IsAny with_flag made name.eq d e
    → Begins IsTypeName (with_type_name home) made name a e
name_taken home name made a b c d e o n k f = record {
  fits = record { owner = o.fits; number = n.fits; arity = k.fits };
  is = o.is ∙ ap (with_owner home name.owner) (n.is ∙ ap (with_number name.number)
      (k.is ∙ ap (with_number name.arity) f.is));
}
