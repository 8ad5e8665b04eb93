use Rattle.std.proofs.Common.{Err, ap, refl, sym, subst, inl}
use Rattle.erl_term.specs.declared.refusal.Refusal.{Refusal}
use Rattle.erl_names.specs.Name.{IsNodeName}
use Rattle.erl_handshake.proofs.Bodies.{no_name, no_text}
use Rattle.erl_handshake.proofs.fields.name_of.Goals as goal

pub returns-in_default-from_utf8 : goal.returns-in_default-from_utf8
returns-in_default-from_utf8 c =
    inl (refl, λ name n. no_text c.args.bytes.now c.in-Some.text.now name c.in-Some.ensures c.in_default-from_utf8.ensures.cases.0 n)

pub returns-in-Err-BadName : goal.returns-in-Err-BadName
returns-in-Err-BadName c =
    inl (
      refl,
      λ name n.
          no_name c.args.bytes.now c.in-Some.text.now name c.in-Some.ensures
          (λ k. c.in-Err-BadName.ensures.bad (ap (λ (e : Refusal). Err e) c.in-Err-BadName.field-0-is)
          (subst IsNodeName (sym c.in-Ok.ensures.cases.0) k)) n,
    )
