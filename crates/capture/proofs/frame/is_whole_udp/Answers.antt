-- `capture::is_whole_udp` meets its contract: the tests before the last one are those of the definition, and where they pass the last one decides
-- (proofs/Frames.antt).
use Prim.Native.Nat.{ℕ}
use mathlib.Core.Path.{◌≡◌, sym, ap, ◌∙◌}
use lib.Dec.{eqb}
use borrow.Author.Tests.{eq-eqb, ne_eqb}
use Rattle.capture.specs.Layout.{ether_ipv4}
use Rattle.capture.proofs.Frames.{and_where_true, and_where_false, type_and_version, before_fragment, not_whole, whole_by_fragment}
use Rattle.capture.proofs.frame.is_whole_udp.Goals as goal
use Rattle.capture.proofs.frame.is_whole_udp.Goals.{Joined-field_at-eq-ETHER_IPV4, Joined-frame-eq-IP_VERSION}
use Rattle.capture.proofs.frame.is_whole_udp.Goals.{then-field_at-eq-ETHER_IPV4, else-field_at-eq-ETHER_IPV4}
use Rattle.capture.proofs.frame.is_whole_udp.Goals.{then-frame-eq-IP_VERSION, else-frame-eq-IP_VERSION}

two_tests : (c : Joined-field_at-eq-ETHER_IPV4) → c.if-field_at-eq-ETHER_IPV4.value ≡ type_and_version c.args.frame.now
two_tests c =
    let read = c.field_at.ensures.0 in
    elim c.if-field_at-eq-ETHER_IPV4.branch [
      | then-field_at-eq-ETHER_IPV4 w ↦ w.value-is ∙ and_where_true _ (eq-eqb _ _ (sym read ∙ w.if-field_at-eq-ETHER_IPV4.true))
      | else-field_at-eq-ETHER_IPV4 w ↦
          w.value-is
          ∙ ap (λ (x : ℕ). eqb x ether_ipv4) read
          ∙ and_where_false _ (ne_eqb _ _ (λ e. w.if-field_at-eq-ETHER_IPV4.false (read ∙ e)))
    ]

three_tests : (c : Joined-frame-eq-IP_VERSION) → c.if-frame-eq-IP_VERSION.value ≡ before_fragment c.args.frame.now
three_tests c =
    let two = two_tests (goal.at.Joined-frame-eq-IP_VERSION c).Joined-field_at-eq-ETHER_IPV4 in
    elim c.if-frame-eq-IP_VERSION.branch [
      | then-frame-eq-IP_VERSION w ↦ w.value-is ∙ and_where_true _ (sym two ∙ w.if-frame-eq-IP_VERSION.true)
      | else-frame-eq-IP_VERSION w ↦ w.value-is ∙ two ∙ and_where_false _ (sym two ∙ w.if-frame-eq-IP_VERSION.false)
    ]

pub returns-then-frame-eq-UDP : goal.returns-then-frame-eq-UDP
returns-then-frame-eq-UDP c =
    let e = three_tests (goal.at.returns-then-frame-eq-UDP c).Joined-frame-eq-IP_VERSION in
    whole_by_fragment _ _ e c.if-frame-eq-UDP.true _ c.field_at-then-frame-eq-UDP.ensures.0

pub returns-else-frame-eq-UDP : goal.returns-else-frame-eq-UDP
returns-else-frame-eq-UDP c =
    not_whole _ _ (three_tests (goal.at.returns-else-frame-eq-UDP c).Joined-frame-eq-IP_VERSION) c.if-frame-eq-UDP.false
