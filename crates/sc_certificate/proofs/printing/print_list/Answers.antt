use Rattle.std.proofs.Common.{◌≡◌, ◌++◌, ℕ, ℤ, List, subst, map, FitsSigned, to_z-of_z, rules}
use Rattle.std.specs.Prelude.{OnOk, OnErr}
use Rattle.std.specs.Int.{w128}
use Rattle.std.specs.List.{zip}
use Rattle.std.proofs.lemmas.Result.{on_err_weaker, on_ok_weaker}
use Rattle.sc_theory.specs.Prices.{pairs}
use Rattle.sc_line.specs.Lines.{ended, text_of}
use Rattle.sc_line.specs.Printing.{AppendsPart}
use Rattle.sc_line.proofs.PrintLaws.{on_err, front_part, then_part, then_all}
use Rattle.sc_text.specs.PriceLines.{scale_line, base_line, pair_line}
use Rattle.sc_certificate.proofs.printing.print_list.Goals as goal

pub returns-in_err-print_scale_line-clause-err : goal.returns-in_err-print_scale_line-clause-err
returns-in_err-print_scale_line-clause-err c =
    let fits : FitsSigned w128 c.scale.result = search rules in
    let old = c.args.out.now.items in
    let p1 : List ℕ = ended (scale_line c.args.list.now.scale) in
    let p2 : List ℕ = text_of (map base_line c.args.list.now.base) in
    let p3 : List ℕ = text_of (map (λ e. pair_line e.0 e.1) (zip (pairs c.args.chain.now) c.args.list.now.pair)) in
    let m1 = c.print_scale_line.new.out.items in
    let part : AppendsPart old m1 p1 = subst (λ (z : ℤ). AppendsPart old m1 (ended (scale_line z))) c.scale.ensures.scale (simp (to_z-of_z fits) at c.in_err-print_scale_line.ensures.err) in
    on_err _ (front_part old m1 p1 (p2 ++ p3) part)

pub returns-in_err-print_base_lines-clause-err : goal.returns-in_err-print_base_lines-clause-err
returns-in_err-print_base_lines-clause-err c =
    let fits : FitsSigned w128 c.scale.result = search rules in
    let old = c.args.out.now.items in
    let p1 : List ℕ = ended (scale_line c.args.list.now.scale) in
    let p2 : List ℕ = text_of (map base_line c.args.list.now.base) in
    let p3 : List ℕ = text_of (map (λ e. pair_line e.0 e.1) (zip (pairs c.args.chain.now) c.args.list.now.pair)) in
    let m1 = c.print_scale_line.new.out.items in
    let first : m1 ≡ old ++ p1 = subst (λ (z : ℤ). m1 ≡ old ++ ended (scale_line z)) c.scale.ensures.scale (simp (to_z-of_z fits) at c.in_ok-print_scale_line.ensures.ok) in
    let m2 = c.print_base_lines.new.out.items in
    let part : AppendsPart m1 m2 p2 = rw c.base.ensures.base at c.in_err-print_base_lines.ensures.err in
    on_err _ (then_part old m1 m2 p1 (p2 ++ p3) first (front_part m1 m2 p2 p3 part))

pub returns-clause-ok : goal.returns-clause-ok
returns-clause-ok c =
    let fits : FitsSigned w128 c.scale.result = search rules in
    let ps : List (ℕ × ℕ) = pairs c.args.chain.now in
    let old = c.args.out.now.items in
    let p1 : List ℕ = ended (scale_line c.args.list.now.scale) in
    let p2 : List ℕ = text_of (map base_line c.args.list.now.base) in
    let p3 : List ℕ = text_of (map (λ e. pair_line e.0 e.1) (zip ps c.args.list.now.pair)) in
    let m1 = c.print_scale_line.new.out.items in
    let first : m1 ≡ old ++ p1 = subst (λ (z : ℤ). m1 ≡ old ++ ended (scale_line z)) c.scale.ensures.scale (simp (to_z-of_z fits) at c.in_ok-print_scale_line.ensures.ok) in
    let m2 = c.print_base_lines.new.out.items in
    let second : m2 ≡ m1 ++ p2 = rw c.base.ensures.base at c.in_ok-print_base_lines.ensures.ok in
    let new = c.print_pair_lines.new.out.items in
    let last : OnOk c.print_pair_lines.result (new ≡ m2 ++ p3) =
    subst (λ (xs : List ℤ). OnOk c.print_pair_lines.result (new ≡ m2 ++ text_of (map (λ e. pair_line e.0 e.1) (zip ps xs)))) c.pair.ensures.pair c.print_pair_lines.ensures.ok in
    on_ok_weaker c.print_pair_lines.result (λ (all : new ≡ m2 ++ p3). then_all old m1 new p1 (p2 ++ p3) first (then_all m1 m2 new p2 p3 second all)) last

pub returns-clause-err : goal.returns-clause-err
returns-clause-err c =
    let fits : FitsSigned w128 c.scale.result = search rules in
    let ps : List (ℕ × ℕ) = pairs c.args.chain.now in
    let old = c.args.out.now.items in
    let p1 : List ℕ = ended (scale_line c.args.list.now.scale) in
    let p2 : List ℕ = text_of (map base_line c.args.list.now.base) in
    let p3 : List ℕ = text_of (map (λ e. pair_line e.0 e.1) (zip ps c.args.list.now.pair)) in
    let m1 = c.print_scale_line.new.out.items in
    let first : m1 ≡ old ++ p1 = subst (λ (z : ℤ). m1 ≡ old ++ ended (scale_line z)) c.scale.ensures.scale (simp (to_z-of_z fits) at c.in_ok-print_scale_line.ensures.ok) in
    let m2 = c.print_base_lines.new.out.items in
    let second : m2 ≡ m1 ++ p2 = rw c.base.ensures.base at c.in_ok-print_base_lines.ensures.ok in
    let new = c.print_pair_lines.new.out.items in
    let last : OnErr c.print_pair_lines.result (AppendsPart m2 new p3) =
    subst (λ (xs : List ℤ). OnErr c.print_pair_lines.result (AppendsPart m2 new (text_of (map (λ e. pair_line e.0 e.1) (zip ps xs))))) c.pair.ensures.pair c.print_pair_lines.ensures.err in
    on_err_weaker c.print_pair_lines.result (λ (part : AppendsPart m2 new p3). then_part old m1 new p1 (p2 ++ p3) first (then_part m1 m2 new p2 p3 second part)) last
