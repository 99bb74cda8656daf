-- Structure expressions and the declarations in them without their derived forms. Each structure expression is made with
-- the place where it is written, since what stands around it may begin there.
use Rattle.std.specs.Prelude.{List, [], ◌∷◌, Option, Some, None, if◌then◌else◌}
use Rattle.sml_trees.specs.declared.name.At.{At}
use Rattle.sml_trees.specs.declared.name.Name.{Name}
use Rattle.sml_trees.specs.declared.full_sig.FullSeal.{FullSeal}
use Rattle.sml_trees.specs.declared.full_str.FullStrDec.{FullStrDec}
use Rattle.sml_trees.specs.declared.full_str.FullStrDec.TheOpen.{FullStrDec-F, FullStrExp-F, FullStrBind-F}
use Rattle.sml_trees.specs.declared.full_str.FullStrDec.TheFolds.{fold-FullStrDec, fold-FullStrExp, fold-FullStrBind}
use Rattle.sml_trees.specs.declared.full_str.FullStrExp.{FullStrExp}
use Rattle.sml_trees.specs.declared.full_str.FullStrBind.{FullStrBind}
use Rattle.sml_trees.specs.declared.exp.Dec.TheVariants as dec
use Rattle.sml_trees.specs.declared.exp.StrBind.{StrBind, roll-StrBind}
use Rattle.sml_trees.specs.declared.exp.StrExp.{StrExp}
use Rattle.sml_trees.specs.declared.exp.StrExp.TheVariants as str
use Rattle.bare_forms.specs.declared.placed.PlacedStr.{PlacedStr}
use Rattle.bare_forms.specs.Signatures.{bare_sig}
use Rattle.bare_forms.specs.Expressions.{PlacedDec, placed_dec, sequence_dec, bare_dec}

-- ---- structures that are bound

-- The Definition, Appendix A, structure bindings: `strid : sigexp = strexp` is `strid = strexp : sigexp`, and so with
-- `:>`; what is matched begins at `strexp`
abbrev pub sealed : Option FullSeal → PlacedStr → StrExp
sealed None body = body.str
sealed (Some seal) body =
    if seal.opaque then str.Opaque body.str (bare_sig seal.sig) body.at
    else str.Transparent body.str (bare_sig seal.sig) body.at

abbrev pub str_bind_of : Name → Option FullSeal → PlacedStr → StrBind
str_bind_of name seal body = roll-StrBind (record { name = name; body = sealed seal body })

abbrev pub str_bind_level :
    FullStrBind-F PlacedDec PlacedStr StrBind
    → StrBind
str_bind_level bind = str_bind_of bind.name bind.seal bind.body

-- ---- structure expressions

abbrev pub placed_str : At → StrExp → PlacedStr
placed_str at str = record { at = at; str = str }

-- The Definition, Appendix A, structure expressions: `funid (strdec)` is `funid (struct strdec end)`, and the structure
-- begins where `strdec` is written, at its first semicolon too
abbrev pub str_level :
    FullStrExp-F PlacedDec PlacedStr StrBind
    → PlacedStr
str_level (FullStrExp-F.Struct decs at) = placed_str at (str.Struct (sequence_dec at decs) at)
str_level (FullStrExp-F.Named long at) = placed_str at (str.Named long at)
str_level (FullStrExp-F.Transparent inner sig at) = placed_str at (str.Transparent inner.str (bare_sig sig) at)
str_level (FullStrExp-F.Opaque inner sig at) = placed_str at (str.Opaque inner.str (bare_sig sig) at)
str_level (FullStrExp-F.Functor name arg at) = placed_str at (str.Functor name arg.str at)
str_level (FullStrExp-F.FunctorOfDecs name decs begin at) =
    placed_str at (str.Functor name (str.Struct (sequence_dec begin decs) begin) at)
str_level (FullStrExp-F.Within decs inner at) = placed_str at (str.Within (sequence_dec at decs) inner.str at)

-- ---- declarations

abbrev pub str_dec_level : FullStrDec-F PlacedDec PlacedStr StrBind → PlacedDec
str_dec_level (FullStrDec-F.Core each) = bare_dec each
str_dec_level (FullStrDec-F.Structures binds at) = placed_dec at (dec.Structures binds at ∷ [])
str_dec_level (FullStrDec-F.Local hidden decs at) =
    placed_dec at (dec.Local (sequence_dec at hidden) (sequence_dec at decs) at ∷ [])

-- ---- what each becomes; `proofs/StrLevels.antt` has an equation for each form

-- a declaration in a structure
unfoldable pub bare_str_dec : FullStrDec → PlacedDec
bare_str_dec = fold-FullStrDec PlacedDec PlacedStr StrBind str_dec_level str_level str_bind_level

-- a structure expression
unfoldable pub bare_str : FullStrExp → PlacedStr
bare_str = fold-FullStrExp PlacedDec PlacedStr StrBind str_dec_level str_level str_bind_level

-- a structure that is bound
unfoldable pub bare_str_bind : FullStrBind → StrBind
bare_str_bind = fold-FullStrBind PlacedDec PlacedStr StrBind str_dec_level str_level str_bind_level
