-- How a `Boxed` stores its value, so that a type may lead back to itself through a box of itself:
-- it is its one field, a `Box`, seen as the value in it.
use mathlib.Core.Path.{refl}
use mathlib.Core.Former.{Former, this, const, pair, via}
use base.Stored.{gnil}
use base.Fml.{ftrue}
use denote.RattleType.{RattleType}
use denote.Memory.{part_of}
use denote.RawPtr.{Ptr}
use denote.Sharing.{nothing}
use denote.HoleLaws.{Alike}
use denote.HolePlaces.{Recodes, struct_places, laid, one_value}
use denote.Hole.Fix.{over}
use denote.Param.Weighed.{Weighed}
use denote.Model.Placed.{view_places}
use Rattle.std.specs.declared.boxed.Box.{Box}
use Rattle.std.specs.contracts.boxed.Box as heap_box
use Rattle.std.specs.declared.alloc.Global.{Global}
use Rattle.std.specs.contracts.alloc.Global as heap
use Rattle.std.specs.contracts.impls.GlobalAllocator.TheImpl.{ghosts}
use Rattle.cm_base.specs.declared.boxed.Boxed.TheInside.{Inside}
use Rattle.cm_base.specs.declared.boxed.Boxed.TheView.{view, invariant}
use Rattle.cm_base.specs.contracts.boxed.Boxed as outer
use Rattle.cm_base.specs.contracts.boxed.Boxed.TheInside as inner

-- what the value holds
abbrev pub the_former : Former {0} → Former {0}
the_former value = value

-- the depth of the value
abbrev pub the_weighed : {value : Former {0}} → Weighed value → Weighed (the_former value)
the_weighed depth = depth

-- the one field: an address, its allocator, and the value
abbrev the_field : Former {0}
the_field = via (pair (const (Ptr × Global)) this) Inside
    (λ X b. ((b.inner.ptr, b.inner.alloc), b.inner.value))
    (λ X p. record { inner = record { ptr = p.0.0; alloc = p.0.1; value = p.1 } }) (λ X b. refl) (λ X p. refl)

-- the same box round another value
abbrev round : {X Y : Type 0} → Box X Global → Y → Box Y Global
round b y = record { ptr = b.ptr; alloc = b.alloc; value = y }

abbrev heap_row : RattleType → RattleType
heap_row R = heap_box.the_row R heap.the_row ghosts

module _ (R S : RattleType) (h : R.Denot → S.Denot) where
  -- two boxes whose values are alike are alike
  boxes : Alike R S h → Alike (heap_row R) (heap_row S) (λ b. round b (h b.value))
  unfolding part_of
  boxes alike = record {
    mir_same = λ i. (heap_row (one_value R (alike.mir_same i) (λ _. ftrue) (λ _ _. nothing) gnil)).mir;
    own_same = λ b i. (heap_row (one_value R (alike.mir_same i) (alike.own_same b.value i) (alike.shr_same b.value i) gnil)).own_val (round b tt);
    shr_same = λ b i. (heap_row (one_value R (alike.mir_same i) (alike.own_same b.value i) (alike.shr_same b.value i) gnil)).shr_at (round b tt);
  }

  pub the_places : Alike R S h → Alike (outer.the_row R) (outer.the_row S) ((the_former this).map R.Denot S.Denot h)
  the_places alike =
      let field = struct_places (inner.the_type R) (inner.the_type S) ((λ b. round b (h b.value)), tt) _ (λ d. refl) refl
      (laid _ _ _ (boxes alike), tt) in
      view_places the_field this view (λ X Y k u. refl) (λ X u. refl) R.Denot S.Denot h
      (outer.the_row R).coded (outer.the_row S).coded (invariant R.Denot) (invariant S.Denot)
      (λ u p q. refl) (λ u p q. refl) (λ u e. tt) (λ u e. tt) (over (inner.the_row R)) (over (inner.the_row S)) field

  pub the_codes_placed : Recodes R S h → Recodes (outer.the_row R) (outer.the_row S) ((the_former this).map R.Denot S.Denot h)
  the_codes_placed same value = same value
