-- The levels of each form of a structure expression or a declaration in one, by those of its parts.
use Rattle.std.proofs.Common.{◌≡◌, suc, max, List, Option, sym, ap, ◌∙◌}
use Rattle.sml_trees.specs.declared.name.At.{At}
use Rattle.sml_trees.specs.declared.name.Name.{Name}
use Rattle.sml_trees.specs.declared.name.LongName.{LongName}
use Rattle.sml_trees.specs.declared.full_exp.FullDec.{FullDec}
use Rattle.sml_trees.specs.declared.full_sig.FullSeal.{FullSeal}
use Rattle.sml_trees.specs.declared.full_sig.FullSigExp.{FullSigExp}
use Rattle.sml_trees.specs.declared.full_str.FullStrBind.{FullStrBind, roll-FullStrBind}
use Rattle.sml_trees.specs.declared.full_str.FullStrDec.{FullStrDec}
use Rattle.sml_trees.specs.declared.full_str.FullStrDec.TheOpen.{FullStrDec-F, FullStrExp-F}
use Rattle.sml_trees.specs.declared.full_str.FullStrDec.TheFolds.{fold-roll-FullStrDec, fold-roll-FullStrExp, fold-roll-FullStrBind}
use Rattle.sml_trees.specs.declared.full_str.FullStrDec.TheVariants as d
use Rattle.sml_trees.specs.declared.full_str.FullStrExp.{FullStrExp}
use Rattle.sml_trees.specs.declared.full_str.FullStrExp.TheVariants as t
use Rattle.level_laws.specs.Levels.{all_levels, if_levels, dec_levels, sig_levels, seal_levels, str_dec_step, str_step, str_bind_step, str_dec_levels, str_levels, str_bind_levels}

pub str_dec-Core : (each : FullDec) → str_dec_levels (d.Core each) ≡ dec_levels each
unfolding str_dec_levels str_levels str_bind_levels
str_dec-Core each =
    ap str_dec_levels (sym (d.rolls-Core each))
    ∙ fold-roll-FullStrDec _ _ _ str_dec_step str_step str_bind_step (FullStrDec-F.Core each)

pub str_dec-Structures : (binds : List FullStrBind) (at : At)
    → str_dec_levels (d.Structures binds at) ≡ suc (all_levels str_bind_levels binds)
unfolding str_dec_levels str_levels str_bind_levels
str_dec-Structures binds at =
    ap str_dec_levels (sym (d.rolls-Structures binds at))
    ∙ fold-roll-FullStrDec _ _ _ str_dec_step str_step str_bind_step (FullStrDec-F.Structures binds at)

pub str_dec-Local : (hidden decs : List FullStrDec) (at : At)
    → str_dec_levels (d.Local hidden decs at)
    ≡ suc (max (all_levels str_dec_levels hidden) (all_levels str_dec_levels decs))
unfolding str_dec_levels str_levels str_bind_levels
str_dec-Local hidden decs at =
    ap str_dec_levels (sym (d.rolls-Local hidden decs at))
    ∙ fold-roll-FullStrDec _ _ _ str_dec_step str_step str_bind_step (FullStrDec-F.Local hidden decs at)

pub str-Struct : (decs : List FullStrDec) (at : At)
    → str_levels (t.Struct decs at) ≡ suc (all_levels str_dec_levels decs)
unfolding str_dec_levels str_levels str_bind_levels
str-Struct decs at =
    ap str_levels (sym (t.rolls-Struct decs at))
    ∙ fold-roll-FullStrExp _ _ _ str_dec_step str_step str_bind_step (FullStrExp-F.Struct decs at)

pub str-Named : (long : LongName) (at : At) → str_levels (t.Named long at) ≡ 1
unfolding str_dec_levels str_levels str_bind_levels
str-Named long at =
    ap str_levels (sym (t.rolls-Named long at))
    ∙ fold-roll-FullStrExp _ _ _ str_dec_step str_step str_bind_step (FullStrExp-F.Named long at)

pub str-Transparent : (inner : FullStrExp) (sig : FullSigExp) (at : At)
    → str_levels (t.Transparent inner sig at) ≡ suc (max (str_levels inner) (sig_levels sig))
unfolding str_dec_levels str_levels str_bind_levels
str-Transparent inner sig at =
    ap str_levels (sym (t.rolls-Transparent inner sig at))
    ∙ fold-roll-FullStrExp _ _ _ str_dec_step str_step str_bind_step (FullStrExp-F.Transparent inner sig at)

pub str-Opaque : (inner : FullStrExp) (sig : FullSigExp) (at : At)
    → str_levels (t.Opaque inner sig at) ≡ suc (max (str_levels inner) (sig_levels sig))
unfolding str_dec_levels str_levels str_bind_levels
str-Opaque inner sig at =
    ap str_levels (sym (t.rolls-Opaque inner sig at))
    ∙ fold-roll-FullStrExp _ _ _ str_dec_step str_step str_bind_step (FullStrExp-F.Opaque inner sig at)

pub str-Functor : (called : Name) (arg : FullStrExp) (at : At)
    → str_levels (t.Functor called arg at) ≡ suc (str_levels arg)
unfolding str_dec_levels str_levels str_bind_levels
str-Functor called arg at =
    ap str_levels (sym (t.rolls-Functor called arg at))
    ∙ fold-roll-FullStrExp _ _ _ str_dec_step str_step str_bind_step (FullStrExp-F.Functor called arg at)

pub str-FunctorOfDecs : (called : Name) (decs : List FullStrDec) (begin at : At)
    → str_levels (t.FunctorOfDecs called decs begin at) ≡ suc (all_levels str_dec_levels decs)
unfolding str_dec_levels str_levels str_bind_levels
str-FunctorOfDecs called decs begin at =
    ap str_levels (sym (t.rolls-FunctorOfDecs called decs begin at))
    ∙ fold-roll-FullStrExp _ _ _ str_dec_step str_step str_bind_step (FullStrExp-F.FunctorOfDecs called decs begin at)

pub str-Within : (decs : List FullStrDec) (inner : FullStrExp) (at : At)
    → str_levels (t.Within decs inner at) ≡ suc (max (all_levels str_dec_levels decs) (str_levels inner))
unfolding str_dec_levels str_levels str_bind_levels
str-Within decs inner at =
    ap str_levels (sym (t.rolls-Within decs inner at))
    ∙ fold-roll-FullStrExp _ _ _ str_dec_step str_step str_bind_step (FullStrExp-F.Within decs inner at)

pub str_bind-is : (called : Name) (given : Option FullSeal) (inner : FullStrExp)
    → str_bind_levels (roll-FullStrBind (record { name = called; seal = given; body = inner }))
    ≡ max (if_levels seal_levels given) (str_levels inner)
unfolding str_dec_levels str_levels str_bind_levels
str_bind-is called given inner =
    fold-roll-FullStrBind _ _ _ str_dec_step str_step str_bind_step (record { name = called; seal = given; body = inner })
