use Rattle.std.proofs.Common.{codes, ◌≡◌, ◌++◌, ◌∙◌, ap, sym, subst, arith}
use Rattle.std.proofs.lemmas.List.{append_assoc}
use Rattle.std.proofs.lemmas.Fmt.{decimal_digit}
use Rattle.std.specs.Prelude.{decimal}
use Rattle.std.specs.Fmt.{WritesOnOk}
use Rattle.shape.specs.declared.refusal.Naming.{Naming}
use Rattle.shape.specs.Refusals.{naming, naming_digits}
use Rattle.report.specs.Texts.{refusal_line}
use Rattle.report.proofs.refusal_text.RefusalLineDisplay.fmt.Goals as goal

-- the line's beginning, with the numbers and the end of the line after it
as_line : (n : Naming) → codes "no s 0 " ++ (naming_digits n ++ codes "\n") ≡ refusal_line (codes "s") 0 n
as_line n =
    ap (λ t. codes "no s 0 " ++ t) (
    append_assoc (decimal n.number) _ (codes "\n")
    ∙ ap (λ t. decimal n.number ++ (codes " " ++ t)) (
    append_assoc (decimal n.direction) _ (codes "\n")
    ∙ ap (λ t. decimal n.direction ++ (codes " " ++ t)) (append_assoc (decimal n.first) _ (codes "\n"))
    )
    )
    ∙ ap (λ t. codes "no s " ++ ((t ++ (codes " " ++ decimal n.number)) ++ (codes " " ++ (decimal n.direction ++ (codes " " ++ (decimal n.first ++ (codes " " ++ (decimal n.second ++ codes "\n"))))))))
    (sym (decimal_digit 0 (omega arith)))

pub returns-clause-writes : goal.returns-clause-writes
returns-clause-writes g c =
    subst (λ t. WritesOnOk g.W.Write.write_str_gives c.args.f.now c.writeln.result t c.writeln.new.self)
    (ap (λ n. codes "no s 0 " ++ (naming_digits n ++ codes "\n")) c.from.ensures ∙ as_line (naming c.args.self.now.refusal))
    c.writeln.ensures.writes
