use Rattle.std.proofs.Common.{sym, ap, ◌∙◌}
use Rattle.std.specs.Prelude.{◌≡◌, ◌↔◌, IsTrue}
use Rattle.std.specs.declared.cmp.Ordering.{Ordering}
use Rattle.std.specs.declared.cmp.Ordering.TheVariants.{Equal}
use Rattle.std.specs.Ordering.{eq_by_cmp, is_eq}
use Rattle.std.specs.Cmp.{IsTotalOrder, Equal-is}
use Rattle.std.proofs.lemmas.Cmp.{tied_itself}
use Rattle.ron_data.specs.Datum.{data_view, content_view}
use Rattle.ron_data.specs.Order.{data_cmp, content_cmp}
use Rattle.ron_data.specs.OrderLaws.{data_cmp_total, data_cmp_same, content_cmp_total, content_cmp_same}
use Rattle.ron_data.proofs.laws.equal_data_are_the_same.Goals as goal

-- an order that ties only what is the same tells what is the same
same : {A : Type 0} (R : A → A → Ordering) → IsTotalOrder R → ((a b : A) → R a b ≡ Equal → a ≡ b) → (a b : A) → IsTrue (eq_by_cmp R a b) ↔ (a ≡ b)
same R total tied a b = (λ e. tied a b ((Equal-is (R a b)).0 e), λ e. ap (λ c. is_eq (R a c)) (sym e) ∙ ap is_eq (tied_itself total a))

pub returns-clause-equal_data : goal.returns-clause-equal_data
returns-clause-equal_data c d e = same data_cmp data_cmp_total data_cmp_same (data_view d) (data_view e)

pub returns-clause-equal_content : goal.returns-clause-equal_content
returns-clause-equal_content c d e = same content_cmp content_cmp_total content_cmp_same (content_view d) (content_view e)
