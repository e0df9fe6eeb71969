use Rattle.std.proofs.Common.{◌≡◌, ◌-◌, ◌*◌, ◌∙◌, ℕ, List, take, drop, length, ap, arith}
use Rattle.std.specs.Str.{bytes_eq}
use Rattle.std.proofs.lemmas.List.{take_rest}
use Rattle.changed_runs.proofs.Looking.{front_is}
use Rattle.changed_runs.proofs.held.Held.has.Goals as goal

pub returns : goal.returns
returns c =
    let run = c.args.run.now in
    let held = take c.args.self.now.count c.args.self.now.bytes in
    let rest = take (length held - c.min-start.result) (drop c.min-start.result held) in
    let e : 256 * (c.args.j - c.args.self.now.first) ≡ 256 * c.args.j - 256 * c.args.self.now.first = omega arith in
    c.eq.ensures
    ∙ ap (λ (xs : List ℕ). bytes_eq xs run)
    (front_is held run rest (256 * (c.args.j - c.args.self.now.first)) c.min-start.result c.min.result
    (take_rest held c.min-start.result) c.min-start.ensures c.min.ensures
    ∙ ap (λ (n : ℕ). take (length run) (drop n held)) e)
