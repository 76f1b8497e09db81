-- What is taken of a certificate: each read comes where the reader asked for more.
use Rattle.std.proofs.Common.{◌≡◌, inr, ℕ, ◌≤◌, List, [], ◌∷◌, ◌++◌, length, take, drop, Option, Some, None, refl, sym, ap, subst, ◌∙◌, append_assoc, arith}
use Rattle.std.specs.Option.{IfSome}
use Rattle.std.proofs.lemmas.List.{append_cancel_right, take-append-drop, length-take}
use Rattle.std.proofs.lemmas.Option.{same_Some}
use Rattle.ffc_base.specs.Outside.{MovesFront}
use Rattle.ffc_cert.specs.Certificate.{Certificate, due_entry, due_fault, next_entry_of, fault_behind}
use Rattle.ffc_verify.specs.Reading.{AsksForMore, IsOpen, TakesPiece, TakesPieces}
use Rattle.ffc_verify.proofs.PieceLemmas.{HasReadOn}

-- One read

pub piece_taken : (n : ℕ) (buffer : List ℕ) (left new : Option (List ℕ)) → MovesFront n buffer left new → n ≤ 4096 → IfSome left (λ bytes. TakesPiece bytes new)
piece_taken n buffer None new m few = tt
piece_taken n buffer (Some bytes) new m few =
    let short : length (take n bytes) ≤ 4096 = let e = length-take n bytes in omega arith in
    record { piece = take n bytes; rest = drop n bytes; split = sym (take-append-drop n bytes); left = m.2; few = short }

-- Several reads

-- a reader that answers nothing asks for more
asks : (c : Certificate) → c.fault ≡ None → None ≡ due_entry c.fault c.bits c.wanted c.text c.given → due_fault c.fault c.bits c.wanted c.text c.given ≡ None → AsksForMore c.bits c.wanted c.text c.given
asks c unmet none sound =
    let entry : next_entry_of c.bits c.wanted c.text c.given ≡ None = ap (λ o. due_entry o c.bits c.wanted c.text c.given) (sym unmet) ∙ sym none in
    record {
      entry = entry;
      sound = ap (λ o. fault_behind o c.bits c.wanted c.text) (sym entry) ∙ ap (λ o. due_fault o c.bits c.wanted c.text c.given) (sym unmet) ∙ sound;
    }

module _ (old : Certificate) (bytes : List ℕ) (now : Certificate) (left_now : Option (List ℕ)) (on : HasReadOn old (Some bytes) now left_now) (t : TakesPieces old bytes left_now) where
  -- the reader has the bytes that were taken
  fed : now.text ≡ old.text ++ t.taken
  fed =
      let m = on.moves bytes refl in
      let same : t.rest ≡ m.0 = same_Some t.rest m.0 (sym t.left ∙ m.1) in
      append_cancel_right now.text (old.text ++ t.taken) t.rest
      (ap (λ r. now.text ++ r) same ∙ sym m.2 ∙ ap (λ b. old.text ++ b) t.split ∙ sym (append_assoc old.text t.taken t.rest))

  asked_here : AsksForMore now.bits now.wanted now.text now.given → AsksForMore old.bits old.wanted (old.text ++ t.taken) old.given
  asked_here a =
      let wanted : now.wanted ≡ old.wanted = ap (λ (c : Certificate). c.wanted) on.same in
      let bits : now.bits ≡ old.bits = ap (λ (c : Certificate). c.bits) on.same in
      let given : now.given ≡ old.given = ap (λ (c : Certificate). c.given) on.same in
      subst (λ n. AsksForMore old.bits old.wanted (old.text ++ t.taken) n) given
      (subst (λ x. AsksForMore old.bits old.wanted x now.given) fed (subst (λ b. AsksForMore b old.wanted now.text now.given) bits (subst (λ w. AsksForMore now.bits w now.text now.given) wanted a)))

  one_more : (later : Option (List ℕ)) → AsksForMore now.bits now.wanted now.text now.given → (piece rest : List ℕ) → t.rest ≡ piece ++ rest → later ≡ Some rest → length piece ≤ 4096 → TakesPieces old bytes later
  one_more later a [] rest e left few = record {
    taken = t.taken;
    rest = rest;
    split = t.split ∙ ap (λ r. t.taken ++ r) e;
    left = left;
    last = t.last;
  }
  one_more later a (x ∷ piece) rest e left few = record {
    taken = t.taken ++ x ∷ piece;
    rest = rest;
    split = t.split ∙ ap (λ r. t.taken ++ r) e ∙ sym (append_assoc t.taken (x ∷ piece) rest);
    left = left;
    last = inr (record { front = t.taken; piece = x ∷ piece; split = refl; some = omega arith; few = few; asked = asked_here a });
  }

-- one more piece, where the reader answered nothing
pub one_more_taken : (old : Certificate) (left : Option (List ℕ)) (now : Certificate) (left_now later : Option (List ℕ)) → IsOpen old → HasReadOn old left now left_now
    → None ≡ due_entry now.fault now.bits now.wanted now.text now.given → due_fault now.fault now.bits now.wanted now.text now.given ≡ None
    → IfSome left (λ bytes. TakesPieces old bytes left_now) → IfSome left_now (λ bytes. TakesPiece bytes later) → IfSome left (λ bytes. TakesPieces old bytes later)
one_more_taken old None now left_now later ready on none sound before piece = tt
one_more_taken old (Some bytes) now left_now later ready on none sound before piece =
    let p : TakesPiece before.rest later = subst (λ o. IfSome o (λ bs. TakesPiece bs later)) before.left piece in
    let unmet : now.fault ≡ None = ap (λ (c : Certificate). c.fault) on.same ∙ ready.fault in
    one_more old bytes now left_now on before later (asks now unmet none sound) p.piece p.rest p.split p.left p.few
