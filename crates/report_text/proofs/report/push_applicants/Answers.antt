use Rattle.std.proofs.Common.{◌≡◌, ◌++◌, map, subst, OnOk, true, false, ap, sym, ◌∙◌, arith}
use Rattle.std.proofs.lemmas.Grind.{common_steps}
use Rattle.house_model.specs.Report.{line_of, applicants_words, stand_alone}
use Rattle.line_text.specs.Written.{written}
use Rattle.report_text.proofs.report.push_applicants.Goals as goal
use Rattle.report_text.proofs.report.push_applicants.Goals.{then-not-stand_alone+in_ok-extend_from_slice-2, else-not-stand_alone}

pub returns : goal.returns
unfolding applicants_words
returns c =
    let alone : c.stand_alone.result ≡ stand_alone c.args.outcome.now.applicant_rows = c.stand_alone.ensures ∙ ap stand_alone c.applicants-rows.ensures in
    let same : map written c.deref.result.now ≡ applicants_words c.args.outcome.now =
    elim c.if-not-stand_alone.branch [
      | then-not-stand_alone+in_ok-extend_from_slice-2 w ↦
          let apart : stand_alone c.args.outcome.now.applicant_rows ≡ false = sym alone ∙ w.if-not-stand_alone.true in
          rw (apart) (grind (arith, common_steps))
      | else-not-stand_alone w ↦
          let together : stand_alone c.args.outcome.now.applicant_rows ≡ true = sym alone ∙ w.if-not-stand_alone.false in
          rw (together) (grind (arith, common_steps))
    ] in
    subst (λ ws. OnOk c.push_line.result (c.push_line.new.out.items ≡ c.args.out.now.items ++ line_of ws)) same c.push_line.ensures.ok
