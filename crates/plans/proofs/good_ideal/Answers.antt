use Rattle.std.proofs.Common.{rules, ◌↔◌, ◌∙◌, sym, All, IsTrue, length}
use Rattle.std.proofs.iter.runs.Made.{chains}
use borrow.Author.Tests.{eq-eqb, ne_eqb}
use lib.Ieee.{nan}
use Rattle.model.specs.Refusal.{good_entry, good_ideal}
use Rattle.list_laws.proofs.Chains.{all_in-chain}
use Rattle.plans.proofs.Refused.{ideal-length}
use Rattle.plans.proofs.good_ideal.Goals as goal

pub returns-then-ideal-m : goal.returns-then-ideal-m
unfolding good_ideal
returns-then-ideal-m c =
    let ideal = c.args.ideal.now in
    let chain : IsTrue c.all.result ↔ All (λ x. IsTrue (good_entry x)) ideal = search (rules, chains) in
    rw (eq-eqb (length ideal) c.args.m c.if-ideal-m.true) (all_in-chain good_entry nan ideal _ chain)

pub returns-else-ideal-m : goal.returns-else-ideal-m
returns-else-ideal-m c = ne_eqb _ _ c.if-ideal-m.false ∙ sym (ideal-length _ _ c.if-ideal-m.false)
