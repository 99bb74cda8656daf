-- The lists of one level of a structure or of a declaration in one.
use Rattle.std.proofs.Common.{◌≡◌, List, ◌++◌, sym, ap, ◌∙◌, map}
use Rattle.sml_trees.specs.declared.name.At.{At}
use Rattle.sml_trees.specs.declared.name.Name.{Name}
use Rattle.sml_trees.specs.declared.full_sig.FullSigExp.{FullSigExp}
use Rattle.sml_trees.specs.declared.full_exp.FullDec.{FullDec}
use Rattle.sml_trees.specs.declared.full_str.FullStrDec.{FullStrDec}
use Rattle.sml_trees.specs.declared.full_str.FullStrDec.TheOpen.{FullStrDec-F, FullStrExp-F}
use Rattle.sml_trees.specs.declared.full_str.FullStrDec.TheFolds.{fold-roll-FullStrDec, fold-roll-FullStrExp, fold-roll-FullStrBind}
use Rattle.sml_trees.specs.declared.full_str.FullStrDec.TheVariants as full_dec
use Rattle.sml_trees.specs.declared.full_str.FullStrExp.{FullStrExp}
use Rattle.sml_trees.specs.declared.full_str.FullStrExp.TheVariants as full_str
use Rattle.sml_trees.specs.declared.full_str.FullStrBind.{FullStrBind, out-FullStrBind, roll-out-FullStrBind}
use Rattle.repeated_names.specs.Repeats.{member, repeats_in, all_repeats}
use Rattle.repeated_names.specs.RepeatedTypes.{sig_repeats, seal_repeats}
use Rattle.repeated_names.specs.RepeatedDecs.{dec_repeats}
use Rattle.repeated_names.specs.RepeatedUnits.{str_dec_level, str_level, str_bind_level, str_dec_repeats, str_repeats, str_bind_member}
use Rattle.repeated_names.proofs.Found.{earliest_with-append}

pub str_dec_repeats-Core : (each : FullDec) → str_dec_repeats (full_dec.Core each) ≡ dec_repeats each
str_dec_repeats-Core each =
    ap str_dec_repeats (sym (full_dec.rolls-Core each))
    ∙ fold-roll-FullStrDec _ _ _ str_dec_level str_level str_bind_level (FullStrDec-F.Core each)

pub str_dec_repeats-Structures : (binds : List FullStrBind) (at : At)
    → str_dec_repeats (full_dec.Structures binds at) ≡ repeats_in (map str_bind_member binds)
str_dec_repeats-Structures binds at =
    ap str_dec_repeats (sym (full_dec.rolls-Structures binds at))
    ∙ fold-roll-FullStrDec _ _ _ str_dec_level str_level str_bind_level (FullStrDec-F.Structures binds at)

pub str_dec_repeats-Local : (hidden : List FullStrDec) (decs : List FullStrDec) (at : At)
    → str_dec_repeats (full_dec.Local hidden decs at)
    ≡ all_repeats (map str_dec_repeats hidden) ++ all_repeats (map str_dec_repeats decs)
str_dec_repeats-Local hidden decs at =
    ap str_dec_repeats (sym (full_dec.rolls-Local hidden decs at))
    ∙ fold-roll-FullStrDec _ _ _ str_dec_level str_level str_bind_level (FullStrDec-F.Local hidden decs at)

pub str_repeats-Transparent : (inner : FullStrExp) (sig : FullSigExp) (at : At)
    → str_repeats (full_str.Transparent inner sig at) ≡ str_repeats inner ++ sig_repeats sig
str_repeats-Transparent inner sig at =
    ap str_repeats (sym (full_str.rolls-Transparent inner sig at))
    ∙ fold-roll-FullStrExp _ _ _ str_dec_level str_level str_bind_level (FullStrExp-F.Transparent inner sig at)

pub str_repeats-Opaque : (inner : FullStrExp) (sig : FullSigExp) (at : At)
    → str_repeats (full_str.Opaque inner sig at) ≡ str_repeats inner ++ sig_repeats sig
str_repeats-Opaque inner sig at =
    ap str_repeats (sym (full_str.rolls-Opaque inner sig at))
    ∙ fold-roll-FullStrExp _ _ _ str_dec_level str_level str_bind_level (FullStrExp-F.Opaque inner sig at)

pub str_repeats-Struct : (decs : List FullStrDec) (at : At)
    → str_repeats (full_str.Struct decs at) ≡ all_repeats (map str_dec_repeats decs)
str_repeats-Struct decs at =
    ap str_repeats (sym (full_str.rolls-Struct decs at))
    ∙ fold-roll-FullStrExp _ _ _ str_dec_level str_level str_bind_level (FullStrExp-F.Struct decs at)

pub str_repeats-FunctorOfDecs : (name : Name) (decs : List FullStrDec) (begin at : At)
    → str_repeats (full_str.FunctorOfDecs name decs begin at) ≡ all_repeats (map str_dec_repeats decs)
str_repeats-FunctorOfDecs name decs begin at =
    ap str_repeats (sym (full_str.rolls-FunctorOfDecs name decs begin at))
    ∙ fold-roll-FullStrExp _ _ _ str_dec_level str_level str_bind_level (FullStrExp-F.FunctorOfDecs name decs begin at)

pub str_repeats-Within : (decs : List FullStrDec) (inner : FullStrExp) (at : At)
    → str_repeats (full_str.Within decs inner at) ≡ all_repeats (map str_dec_repeats decs) ++ str_repeats inner
str_repeats-Within decs inner at =
    ap str_repeats (sym (full_str.rolls-Within decs inner at))
    ∙ fold-roll-FullStrExp _ _ _ str_dec_level str_level str_bind_level (FullStrExp-F.Within decs inner at)

pub str_bind_member-kept : (bind : FullStrBind) → str_bind_member bind ≡ member (out-FullStrBind bind).name
    (seal_repeats (out-FullStrBind bind).seal ++ str_repeats (out-FullStrBind bind).body)
str_bind_member-kept bind =
    ap str_bind_member (sym (roll-out-FullStrBind bind))
    ∙ fold-roll-FullStrBind _ _ _ str_dec_level str_level str_bind_level (out-FullStrBind bind)

pub ruleset str_dec_forms = (
  earliest_with-append,
  str_dec_repeats-Core,
  str_dec_repeats-Structures,
  str_dec_repeats-Local,
)

pub ruleset str_forms = (
  earliest_with-append,
  str_repeats-Struct,
  str_repeats-FunctorOfDecs,
  str_repeats-Within,
  str_repeats-Transparent,
  str_repeats-Opaque,
)
