-- What the arms of a match on a command say of its number.
use Rattle.std.specs.Prelude.{◌≡◌, ◌≢◌, ℕ, ◌<◌, ◌≤◌, ◌⊎◌}
use Rattle.std.proofs.Common.{arith, inl, inr, refl}
use Rattle.wire.specs.Token as Token
use Rattle.wire.specs.Commands.{command_number, IsCommand}
use Rattle.wire.specs.declared.Command.{Command}
use Rattle.wire.specs.declared.Command.TheVariants as C

pub documents : (c : Command) → ((c ≡ C.StartDocument) ⊎ (c ≡ C.EndDocument)) → command_number c < Token.start_tag
documents c (inl e) = rw e (omega arith)
documents c (inr e) = rw e (omega arith)

pub tags : (c : Command) → ((c ≡ C.StartTag) ⊎ (c ≡ C.EndTag)) → (Token.end_document < command_number c) × (command_number c < Token.text)
tags c (inl e) = rw e (omega arith, omega arith)
tags c (inr e) = rw e (omega arith, omega arith)

pub texts : (c : Command) → ((c ≡ C.Text) ⊎ ((c ≡ C.Cdata) ⊎ ((c ≡ C.EntityRef) ⊎ ((c ≡ C.IgnorableWhitespace) ⊎ ((c ≡ C.ProcessingInstruction) ⊎ ((c ≡ C.Comment) ⊎ (c ≡ C.DocDecl))))))) → (Token.end_tag < command_number c) × (command_number c ≤ Token.doc_decl)
texts c (inl e) = rw e (omega arith, omega arith)
texts c (inr (inl e)) = rw e (omega arith, omega arith)
texts c (inr (inr (inl e))) = rw e (omega arith, omega arith)
texts c (inr (inr (inr (inl e)))) = rw e (omega arith, omega arith)
texts c (inr (inr (inr (inr (inl e))))) = rw e (omega arith, omega arith)
texts c (inr (inr (inr (inr (inr (inl e)))))) = rw e (omega arith, omega arith)
texts c (inr (inr (inr (inr (inr (inr e)))))) = rw e (omega arith, omega arith)

-- a number that is no document event, tag or attribute
pub others : (n : ℕ) (it : Command) → IsCommand n it → it ≢ C.StartDocument → it ≢ C.EndDocument → it ≢ C.StartTag → it ≢ C.EndTag → it ≢ C.Attribute → (Token.end_tag < n) × (n ≢ Token.attribute)
others n C.StartDocument e a b c d f = absurd (a refl)
others n C.EndDocument e a b c d f = absurd (b refl)
others n C.StartTag e a b c d f = absurd (c refl)
others n C.EndTag e a b c d f = absurd (d refl)
others n C.Text e a b c d f = (omega arith, omega arith)
others n C.Cdata e a b c d f = (omega arith, omega arith)
others n C.EntityRef e a b c d f = (omega arith, omega arith)
others n C.IgnorableWhitespace e a b c d f = (omega arith, omega arith)
others n C.ProcessingInstruction e a b c d f = (omega arith, omega arith)
others n C.Comment e a b c d f = (omega arith, omega arith)
others n C.DocDecl e a b c d f = (omega arith, omega arith)
others n C.Attribute e a b c d f = absurd (f refl)
others n (C.Unknown m) e a b c d f = (omega (arith, e.1), e.2)

pub not_text : (n : ℕ) (it : Command) → IsCommand n it → it ≢ C.Text → n ≢ Token.text
not_text n C.StartDocument e a = omega arith
not_text n C.EndDocument e a = omega arith
not_text n C.StartTag e a = omega arith
not_text n C.EndTag e a = omega arith
not_text n C.Text e a = absurd (a refl)
not_text n C.Cdata e a = omega arith
not_text n C.EntityRef e a = omega arith
not_text n C.IgnorableWhitespace e a = omega arith
not_text n C.ProcessingInstruction e a = omega arith
not_text n C.Comment e a = omega arith
not_text n C.DocDecl e a = omega arith
not_text n C.Attribute e a = omega arith
not_text n (C.Unknown m) e a = omega (arith, e.1)
