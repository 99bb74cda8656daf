-- What the forms of declarations and structure expressions with several parts use and bring.
use Rattle.std.proofs.Common.{◌≡◌, ◌∙◌, sym, ap}
use Rattle.cm_base.specs.declared.record.Namespace.TheVariants as space
use Rattle.sml_trees.specs.declared.name.At.{At}
use Rattle.sml_trees.specs.declared.name.Name.{Name}
use Rattle.sml_trees.specs.declared.exp.Dec.{Dec}
use Rattle.sml_trees.specs.declared.exp.Dec.TheOpen.{Dec-F, StrExp-F}
use Rattle.sml_trees.specs.declared.exp.Dec.TheFolds.{fold-roll-Dec, fold-roll-StrExp}
use Rattle.sml_trees.specs.declared.exp.Dec.TheVariants as dec
use Rattle.sml_trees.specs.declared.exp.StrExp.{StrExp}
use Rattle.sml_trees.specs.declared.exp.StrExp.TheVariants as str
use Rattle.skeletons.specs.Scopes.{hiding, within, both, name_use}
use Rattle.skeletons.specs.Uses.{dec_brings, str_uses, dec_level, exp_level, str_level, exp_field_level, rule_level, str_bind_level}

pub brings-Local : (first second : Dec) (at : At)
    → dec_brings (dec.Local first second at) ≡ hiding (dec_brings first) (dec_brings second)
brings-Local first second at =
    ap dec_brings (sym (dec.rolls-Local first second at))
    ∙ fold-roll-Dec _ _ _ _ _ _ dec_level exp_level str_level exp_field_level rule_level str_bind_level (Dec-F.Local first second at)

pub uses-Functor : (name : Name) (arg : StrExp) (at : At)
    → str_uses (str.Functor name arg at) ≡ both (name_use space.Functor name) (str_uses arg)
uses-Functor name arg at =
    ap str_uses (sym (str.rolls-Functor name arg at))
    ∙ fold-roll-StrExp _ _ _ _ _ _ dec_level exp_level str_level exp_field_level rule_level str_bind_level (StrExp-F.Functor name arg at)

pub uses-Within : (first : Dec) (body : StrExp) (at : At)
    → str_uses (str.Within first body at) ≡ within (dec_brings first) (str_uses body)
uses-Within first body at =
    ap str_uses (sym (str.rolls-Within first body at))
    ∙ fold-roll-StrExp _ _ _ _ _ _ dec_level exp_level str_level exp_field_level rule_level str_bind_level (StrExp-F.Within first body at)
