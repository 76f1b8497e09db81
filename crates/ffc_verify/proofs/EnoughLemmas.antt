-- How much of a certificate is read: without its last read what was read is not enough.
use Rattle.std.proofs.Common.{◌≡◌, ◌⊎◌, inl, inr, ℕ, Bool, List, [], ◌∷◌, ◌++◌, length, map, take, Option, Some, None, refl, sym, ap, subst, ◌∙◌, append_assoc, append-nil}
use Rattle.std.specs.Option.{IfSome}
use Rattle.std.proofs.lemmas.List.{length-map, map-append}
use Rattle.ffc_cert.specs.Certificate.{Certificate}
use Rattle.ffc_cert.specs.Reading.{reading_of, stop_fault}
use Rattle.ffc_smt.specs.Scripts.{reads}
use Rattle.ffc_smt.specs.TableChecks.{TableCheck, table_checks}
use Rattle.ffc_elab.specs.Histories.{check_now}
use Rattle.ffc_script.specs.Progress.{Progress, steps_of, known_at}
use Rattle.ffc_script.specs.Kept.{AreFirst}
use Rattle.ffc_rules.specs.Entries.{limits}
use Rattle.ffc_rules.specs.Judging.{checks_in, first_broken, node_check}
use Rattle.ffc_verify.specs.declared.verdicts.Tally.{Tally}
use Rattle.ffc_verify.specs.declared.verify.CheckStatus.{CheckStatus}
use Rattle.ffc_verify.specs.declared.verify.CheckStatus.TheVariants as status
use Rattle.ffc_verify.specs.Reading.{AsksForMore, HasLastPiece, TakesPieces}
use Rattle.ffc_verify.specs.Status.{IsLastRead, IsNotEnough, IsReadAt, ReadsAsNeeded}
use Rattle.ffc_verify.specs.Walking.{GivesCheck, IsCounted, IsThrough}
use Rattle.ffc_verify.proofs.JudgeLemmas.{IsUnderway, none_broken}
use Rattle.ffc_verify.proofs.VerdictLemmas.{later_checks}
use Rattle.ffc_verify.proofs.DueLemmas.{reads_cut}

pub nothing_read : (bits : Bool) (script : List ℕ) (left : Option (List ℕ)) → IfSome left (λ W. ReadsAsNeeded bits script W left)
nothing_read bits script None = tt
nothing_read bits script (Some W) = record { text = []; rest = W; split = refl; left = refl; last = inl refl }

module _ (script : List ℕ) (checks : ℕ) (bits cores : Bool) (left : Option (List ℕ)) (counted : IsCounted script checks) (p : Progress) (c : Certificate) (now : Option (List ℕ)) (t : Tally) (h : IsUnderway script checks bits cores left p c now t) where
  abbrev P : List TableCheck
  P = table_checks (steps_of p)

  -- the checks so far are the first ones
  abbrev AreFirstChecks : List TableCheck → Type 0
  AreFirstChecks ds = table_checks (reads script).steps ≡ P ++ ds

  wanted_is : length (checks_in script) ≡ c.wanted
  wanted_is = length-map (table_checks (reads script).steps) node_check ∙ counted.checks ∙ sym h.wanted

  -- where the reader asks for more, its text is not enough
  not_enough : (ds : List TableCheck) → AreFirstChecks ds → (front : List ℕ) → AsksForMore c.bits c.wanted (c.text ++ front) c.given → IsNotEnough bits script (c.text ++ front)
  not_enough ds all front asked =
      let cs = map node_check P in
      let W = c.text ++ front in
      let long : length cs ≡ c.given = length-map P node_check ∙ sym h.judged.count in
      let checks_are : checks_in script ≡ cs ++ map node_check ds = ap (map node_check) all ∙ map-append node_check P ds in
      record {
        form = subst (λ v. stop_fault (reading_of v (length (checks_in script)) W).end ≡ None) h.version (subst (λ w. stop_fault (reading_of c.bits w W).end ≡ None) (sym wanted_is) asked.sound);
        rules =
            subst (λ v. first_broken limits (checks_in script) (reading_of v (length (checks_in script)) W).entries ≡ None) h.version
            (subst (λ w. first_broken limits (checks_in script) (reading_of c.bits w W).entries ≡ None) (sym wanted_is)
            (subst (λ xs. first_broken limits xs (reading_of c.bits c.wanted W).entries ≡ None) (sym checks_are)
            (none_broken c.bits c.wanted cs c.text W front refl c.given h.judged.within long h.judged.kept asked.entry (map node_check ds))));
      }

  module _ (ds : List TableCheck) (all : AreFirstChecks ds) (later : Option (List ℕ)) where
    more_of : (W rest : List ℕ) → W ≡ c.text ++ rest → now ≡ Some rest → ReadsAsNeeded bits script W now → TakesPieces c rest later → ReadsAsNeeded bits script W later
    more_of W rest whole is before pieces = by_last pieces.last
      where
        by_last : (pieces.taken ≡ []) ⊎ HasLastPiece c pieces.taken → ReadsAsNeeded bits script W later
        by_last (inl none) =
            let same : later ≡ now = pieces.left ∙ ap Some (ap (λ x. x ++ pieces.rest) (sym none) ∙ sym pieces.split) ∙ sym is in
            subst (ReadsAsNeeded bits script W) (sym same) before
        by_last (inr last) = record {
          text = c.text ++ pieces.taken;
          rest = pieces.rest;
          split = whole ∙ ap (λ x. c.text ++ x) pieces.split ∙ sym (append_assoc c.text pieces.taken pieces.rest);
          left = pieces.left;
          last = inr (record {
            front = c.text ++ last.front;
            piece = last.piece;
            split = ap (λ x. c.text ++ x) last.split ∙ sym (append_assoc c.text last.front last.piece);
            some = last.some;
            few = last.few;
            more = not_enough ds all last.front last.asked;
          });
        }

    read_on : IfSome left (λ W. ReadsAsNeeded bits script W now) → IfSome now (λ bytes. TakesPieces c bytes later) → IfSome left (λ W. ReadsAsNeeded bits script W later)
    read_on before pieces = by_left left refl before
      where
        by_left : (o : Option (List ℕ)) → left ≡ o → IfSome o (λ W. ReadsAsNeeded bits script W now) → IfSome o (λ W. ReadsAsNeeded bits script W later)
        by_left None e b = tt
        by_left (Some W) e b =
            let m = h.moves W e in
            more_of W m.0 m.2 m.1 b (subst (λ o. IfSome o (λ bytes. TakesPieces c bytes later)) m.1 pieces)

  -- at the end of the script
  pub end_read : IsThrough p → (later : Option (List ℕ)) → IfSome left (λ W. ReadsAsNeeded bits script W now) → IfSome now (λ bytes. TakesPieces c bytes later) → IfSome left (λ W. ReadsAsNeeded bits script W later)
  end_read through later before pieces =
      read_on [] (ap (λ b. table_checks (reads b).steps) (sym h.text) ∙ through.checks ∙ sym (append-nil P)) later before pieces

  -- at a check
  pub check_read : (q : Progress) → GivesCheck p q → AreFirst q.text (steps_of q) → (later : Option (List ℕ)) → IfSome left (λ W. ReadsAsNeeded bits script W now) → IfSome now (λ bytes. TakesPieces c bytes later)
      → IfSome left (λ W. ReadsAsNeeded bits script W later)
  check_read q g first later before pieces =
      let rest = later_checks script checks bits cores left counted p c now t h q g first in
      read_on (check_now (known_at q) ∷ rest.0) rest.1 later before pieces

-- Statuses

-- the script as it was read
steps_alone : (bits : Bool) (one two : List ℕ) (certificate : List ℕ) (new : Option (List ℕ)) → reads one ≡ reads two → ReadsAsNeeded bits one certificate new → ReadsAsNeeded bits two certificate new
steps_alone bits one two certificate new e r = record { text = r.text; rest = r.rest; split = r.split; left = r.left; last = by_last r.last }
  where
    not_yet : (front : List ℕ) → IsNotEnough bits one front → IsNotEnough bits two front
    not_yet front n =
        let same : checks_in one ≡ checks_in two = ap (λ s. map node_check (table_checks s.steps)) e in
        record {
          form = subst (λ cs. stop_fault (reading_of bits (length cs) front).end ≡ None) same n.form;
          rules = subst (λ cs. first_broken limits cs (reading_of bits (length cs) front).entries ≡ None) same n.rules;
        }

    by_last : (r.text ≡ []) ⊎ IsLastRead bits one r.text → (r.text ≡ []) ⊎ IsLastRead bits two r.text
    by_last (inl none) = inl none
    by_last (inr last) = inr (record { front = last.front; piece = last.piece; split = last.split; some = last.some; few = last.few; more = not_yet last.front last.more })

read_of_same : (s : CheckStatus) (bits : Bool) (one two certificate : List ℕ) (old new : Option (List ℕ)) → reads one ≡ reads two → IsReadAt s bits one certificate old new → IsReadAt s bits two certificate old new
read_of_same status.Accepted bits one two certificate old new e r = steps_alone bits one two certificate new e r
read_of_same status.Refused bits one two certificate old new e r = steps_alone bits one two certificate new e r
read_of_same status.CertFault bits one two certificate old new e (inl same) = inl same
read_of_same status.CertFault bits one two certificate old new e (inr r) = inr (steps_alone bits one two certificate new e r)
read_of_same status.WriteFault bits one two certificate old new e (inl same) = inl same
read_of_same status.WriteFault bits one two certificate old new e (inr r) = inr (steps_alone bits one two certificate new e r)
read_of_same status.Memory bits one two certificate old new e (inl same) = inl same
read_of_same status.Memory bits one two certificate old new e (inr r) = inr (steps_alone bits one two certificate new e r)
read_of_same status.Usage bits one two certificate old new e r = r
read_of_same status.ScriptRefused bits one two certificate old new e r = r
read_of_same status.ReadFault bits one two certificate old new e r = r

pub script_read : (s : CheckStatus) (bits : Bool) (text : List ℕ) (left contents old new : Option (List ℕ)) → IfSome left (λ bytes. text ≡ take 67108865 bytes) → IfSome contents (λ certificate. IsReadAt s bits text certificate old new)
    → IfSome left (λ bytes. IfSome contents (λ certificate. IsReadAt s bits bytes certificate old new))
script_read s bits text None contents old new is r = tt
script_read s bits text (Some bytes) None old new is r = tt
script_read s bits text (Some bytes) (Some certificate) old new is r = read_of_same s bits text bytes certificate old new (reads_cut text bytes is) r
