-- Four fields, one after another.
use Rattle.std.proofs.Common.{append_assoc}
use Rattle.std.proofs.lemmas.Result.{on_ok_weaker}
use Rattle.serving_http.proofs.ResponseLemmas.{both}
use Rattle.serving_http.proofs.responses.put_common_fields.Goals as goal

pub returns-clause-fields : goal.returns-clause-fields
returns-clause-fields c =
    on_ok_weaker c.and-3.result (λ added.
    rw added.1 (rw added.0.1 (rw added.0.0.1 (rw added.0.0.0 (simp append_assoc)))))
    (both c.and-2.result c.put_field-4.result c.and-3.result _ _ c.and-3.ensures
    (both c.and.result c.put_field-3.result c.and-2.result _ _ c.and-2.ensures
    (both c.put_field.result c.put_field-2.result c.and.result _ _ c.and.ensures c.put_field.ensures.fields
    c.put_field-2.ensures.fields)
    c.put_field-3.ensures.fields)
    c.put_field-4.ensures.fields)
