use Rattle.std.proofs.Common.{◌≡◌, ◌∙◌, ap, rules, to_z, of_z, w64}
use Rattle.posix.specs.Common.{asked}
use Rattle.life.proofs.caller.Caller.asked.Goals as goal

pub returns : goal.returns
returns c =
    let first : to_z w64 (of_z w64 c.args.self.now.r1) ≡ c.args.self.now.r1 = search rules in
    let second : to_z w64 (of_z w64 c.args.self.now.r2) ≡ c.args.self.now.r2 = search rules in
    let third : to_z w64 (of_z w64 c.args.self.now.r3) ≡ c.args.self.now.r3 = search rules in
    c.asks.ensures ∙ ap (λ z. asked c.args.call z (to_z w64 (of_z w64 c.args.self.now.r2)) (to_z w64 (of_z w64 c.args.self.now.r3))) first ∙ ap (λ z. asked c.args.call c.args.self.now.r1 z (to_z w64 (of_z w64 c.args.self.now.r3))) second
    ∙ ap (asked c.args.call c.args.self.now.r1 c.args.self.now.r2) third
