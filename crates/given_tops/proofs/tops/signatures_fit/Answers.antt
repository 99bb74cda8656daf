use Rattle.std.proofs.Common.{ℕ, ◌+◌, ◌∙◌, drop, get_or, refl}
use Rattle.sml_modules.specs.Items.{at, as_signature}
use Rattle.given_tops.specs.Names.{nodes_of}
use Rattle.given_tops.specs.Fitting.{SignatureFits}
use Rattle.given_tops.proofs.Looping.{item_left}
use Rattle.given_tops.proofs.Conditions.{place_next, place_fails, places_end, table_yes, table_no}
use Rattle.given_tops.proofs.tops.signatures_fit.Goals as goal

pub loop-place-preserved : goal.loop-place-preserved
loop-place-preserved c =
    let items = c.as_slice-place-items.result.now in
    let i = c.loop-place.place-index in
    record {
      fit = c.in_ok-signature_fits.ensures.fit;
      left = place_next (λ (p : ℕ). SignatureFits (nodes_of c.args.limits.now) (as_signature (at c.args.g.now.items p)))
          (drop i items) (drop (i + 1) items) items (get_or items i 0) _
          (item_left 0 items items i refl c.loop-place-test.true) c.in_ok-signature_fits.ensures.fits
          c.if-not-branch.false c.loop-place.invariant.left;
    }

pub returns-then-not-branch-clause-fits : goal.returns-then-not-branch-clause-fits
returns-then-not-branch-clause-fits c =
    let items = c.as_slice-place-items.result.now in
    let i = c.loop-place.place-index in
    table_no (λ (p : ℕ). as_signature (at c.args.g.now.items p)) (SignatureFits (nodes_of c.args.limits.now)) c.args.rows.now items
    (c.as_slice-place-items.ensures ∙ c.in_ok-places.ensures)
    (place_fails (λ (p : ℕ). SignatureFits (nodes_of c.args.limits.now) (as_signature (at c.args.g.now.items p))) (drop i items)
    (drop (i + 1) items) items (get_or items i 0) _ (item_left 0 items items i refl c.loop-place-test.true)
    c.in_ok-signature_fits.ensures.fits c.if-not-branch.true c.loop-place.invariant.left)

pub returns-clause-fits : goal.returns-clause-fits
returns-clause-fits c =
    let items = c.as_slice-place-items.result.now in
    table_yes (λ (p : ℕ). as_signature (at c.args.g.now.items p)) (SignatureFits (nodes_of c.args.limits.now)) c.args.rows.now items
    c.in_ok-rise.ensures (c.as_slice-place-items.ensures ∙ c.in_ok-places.ensures)
    (places_end (λ (p : ℕ). SignatureFits (nodes_of c.args.limits.now) (as_signature (at c.args.g.now.items p))) items items
    c.loop-place.place-index refl c.loop-place-test.false c.loop-place.invariant.left)
