-- What each form of a structure expression or of a declaration in one becomes, with what its parts become.
use Rattle.std.proofs.Common.{◌≡◌, List, [], ◌∷◌, sym, ap, ◌∙◌, map}
use Rattle.sml_trees.specs.declared.name.At.{At}
use Rattle.sml_trees.specs.declared.name.Name.{Name}
use Rattle.sml_trees.specs.declared.name.LongName.{LongName}
use Rattle.sml_trees.specs.declared.full_sig.FullSigExp.{FullSigExp}
use Rattle.sml_trees.specs.declared.full_exp.FullDec.{FullDec}
use Rattle.sml_trees.specs.declared.full_str.FullStrDec.{FullStrDec}
use Rattle.sml_trees.specs.declared.full_str.FullStrDec.TheOpen.{FullStrDec-F, FullStrExp-F}
use Rattle.sml_trees.specs.declared.full_str.FullStrDec.TheFolds.{fold-roll-FullStrDec, fold-roll-FullStrExp, fold-roll-FullStrBind}
use Rattle.sml_trees.specs.declared.full_str.FullStrDec.TheVariants as full_dec
use Rattle.sml_trees.specs.declared.full_str.FullStrExp.{FullStrExp}
use Rattle.sml_trees.specs.declared.full_str.FullStrExp.TheVariants as full_str
use Rattle.sml_trees.specs.declared.full_str.FullStrBind.{FullStrBind, out-FullStrBind, roll-out-FullStrBind}
use Rattle.sml_trees.specs.declared.exp.Dec.TheVariants as dec
use Rattle.sml_trees.specs.declared.exp.StrExp.TheVariants as str
use Rattle.bare_forms.specs.Signatures.{bare_sig}
use Rattle.bare_forms.specs.Expressions.{placed_dec, sequence_dec, bare_dec}
use Rattle.bare_forms.specs.Structures.{placed_str, str_bind_of, str_dec_level, str_level, str_bind_level, bare_str_dec, bare_str, bare_str_bind}

-- ---- declarations

pub bare_str_dec-Core : (each : FullDec) → bare_str_dec (full_dec.Core each) ≡ bare_dec each
unfolding bare_str_dec bare_str bare_str_bind
bare_str_dec-Core each =
    ap bare_str_dec (sym (full_dec.rolls-Core each))
    ∙ fold-roll-FullStrDec _ _ _ str_dec_level str_level str_bind_level (FullStrDec-F.Core each)

pub bare_str_dec-Structures : (binds : List FullStrBind) (at : At)
    → bare_str_dec (full_dec.Structures binds at)
    ≡ placed_dec at (dec.Structures (map bare_str_bind binds) at ∷ [])
unfolding bare_str_dec bare_str bare_str_bind
bare_str_dec-Structures binds at =
    ap bare_str_dec (sym (full_dec.rolls-Structures binds at))
    ∙ fold-roll-FullStrDec _ _ _ str_dec_level str_level str_bind_level (FullStrDec-F.Structures binds at)

pub bare_str_dec-Local : (hidden decs : List FullStrDec) (at : At)
    → bare_str_dec (full_dec.Local hidden decs at)
    ≡ placed_dec at (dec.Local (sequence_dec at (map bare_str_dec hidden)) (sequence_dec at (map bare_str_dec decs)) at ∷ [])
unfolding bare_str_dec bare_str bare_str_bind
bare_str_dec-Local hidden decs at =
    ap bare_str_dec (sym (full_dec.rolls-Local hidden decs at))
    ∙ fold-roll-FullStrDec _ _ _ str_dec_level str_level str_bind_level (FullStrDec-F.Local hidden decs at)

-- ---- structure expressions

pub bare_str-Struct : (decs : List FullStrDec) (at : At)
    → bare_str (full_str.Struct decs at)
    ≡ placed_str at (str.Struct (sequence_dec at (map bare_str_dec decs)) at)
unfolding bare_str_dec bare_str bare_str_bind
bare_str-Struct decs at =
    ap bare_str (sym (full_str.rolls-Struct decs at))
    ∙ fold-roll-FullStrExp _ _ _ str_dec_level str_level str_bind_level (FullStrExp-F.Struct decs at)

pub bare_str-Named : (long : LongName) (at : At)
    → bare_str (full_str.Named long at)
    ≡ placed_str at (str.Named long at)
unfolding bare_str_dec bare_str bare_str_bind
bare_str-Named long at =
    ap bare_str (sym (full_str.rolls-Named long at))
    ∙ fold-roll-FullStrExp _ _ _ str_dec_level str_level str_bind_level (FullStrExp-F.Named long at)

pub bare_str-Transparent : (inner : FullStrExp) (sig : FullSigExp) (at : At)
    → bare_str (full_str.Transparent inner sig at)
    ≡ placed_str at (str.Transparent (bare_str inner).str (bare_sig sig) at)
unfolding bare_str_dec bare_str bare_str_bind
bare_str-Transparent inner sig at =
    ap bare_str (sym (full_str.rolls-Transparent inner sig at))
    ∙ fold-roll-FullStrExp _ _ _ str_dec_level str_level str_bind_level (FullStrExp-F.Transparent inner sig at)

pub bare_str-Opaque : (inner : FullStrExp) (sig : FullSigExp) (at : At)
    → bare_str (full_str.Opaque inner sig at)
    ≡ placed_str at (str.Opaque (bare_str inner).str (bare_sig sig) at)
unfolding bare_str_dec bare_str bare_str_bind
bare_str-Opaque inner sig at =
    ap bare_str (sym (full_str.rolls-Opaque inner sig at))
    ∙ fold-roll-FullStrExp _ _ _ str_dec_level str_level str_bind_level (FullStrExp-F.Opaque inner sig at)

pub bare_str-Functor : (name : Name) (arg : FullStrExp) (at : At)
    → bare_str (full_str.Functor name arg at)
    ≡ placed_str at (str.Functor name (bare_str arg).str at)
unfolding bare_str_dec bare_str bare_str_bind
bare_str-Functor name arg at =
    ap bare_str (sym (full_str.rolls-Functor name arg at))
    ∙ fold-roll-FullStrExp _ _ _ str_dec_level str_level str_bind_level (FullStrExp-F.Functor name arg at)

pub bare_str-FunctorOfDecs : (name : Name) (decs : List FullStrDec) (begin at : At)
    → bare_str (full_str.FunctorOfDecs name decs begin at)
    ≡ placed_str at (str.Functor name (str.Struct (sequence_dec begin (map bare_str_dec decs)) begin) at)
unfolding bare_str_dec bare_str bare_str_bind
bare_str-FunctorOfDecs name decs begin at =
    ap bare_str (sym (full_str.rolls-FunctorOfDecs name decs begin at))
    ∙ fold-roll-FullStrExp _ _ _ str_dec_level str_level str_bind_level (FullStrExp-F.FunctorOfDecs name decs begin at)

pub bare_str-Within : (decs : List FullStrDec) (inner : FullStrExp) (at : At)
    → bare_str (full_str.Within decs inner at)
    ≡ placed_str at (str.Within (sequence_dec at (map bare_str_dec decs)) (bare_str inner).str at)
unfolding bare_str_dec bare_str bare_str_bind
bare_str-Within decs inner at =
    ap bare_str (sym (full_str.rolls-Within decs inner at))
    ∙ fold-roll-FullStrExp _ _ _ str_dec_level str_level str_bind_level (FullStrExp-F.Within decs inner at)

-- ---- bindings

pub bare_str_bind-kept : (bind : FullStrBind)
    → bare_str_bind bind
    ≡ str_bind_of (out-FullStrBind bind).name (out-FullStrBind bind).seal (bare_str (out-FullStrBind bind).body)
unfolding bare_str_dec bare_str bare_str_bind
bare_str_bind-kept bind =
    ap bare_str_bind (sym (roll-out-FullStrBind bind))
    ∙ fold-roll-FullStrBind _ _ _ str_dec_level str_level str_bind_level (out-FullStrBind bind)

pub ruleset str_dec_forms = (bare_str_dec-Core, bare_str_dec-Structures, bare_str_dec-Local)

pub ruleset str_forms = (
  bare_str-Struct,
  bare_str-Named,
  bare_str-Transparent,
  bare_str-Opaque,
  bare_str-Functor,
  bare_str-FunctorOfDecs,
  bare_str-Within,
)

pub ruleset str_bind_form = (bare_str_bind-kept)
