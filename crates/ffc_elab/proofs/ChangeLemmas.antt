-- What commands without names, sorts and terms change.
use Rattle.std.proofs.Common.{◌≡◌, ℕ, ◌<◌, ◌≤◌, nat_lt, Bool, true, false, if◌then◌else◌, List, [], length, Option, Some, None, Ok, Err, refl, sym, ap, ◌∙◌, subst, arith}
use Rattle.std.proofs.lemmas.Bool.Decides.{nat_tests}
use Rattle.ffc_smt.specs.Trees.{Word, Tree, front, items_of}
use Rattle.ffc_smt.specs.Faults.{Fault, word_fault, Read, Sound, Faulty, faulty, behind}
use Rattle.ffc_smt.specs.Terms as smt
use Rattle.ffc_smt.specs.Terms.{Asked, CheckSatAssuming}
use Rattle.ffc_smt.specs.Scopes.{State}
use Rattle.ffc_smt.specs.CommandReading.{limits, nodes_after, command_weight, form_read, within, command_read}
use Rattle.ffc_smt.specs.Scripts.{after, changed, first_named, named_orders}
use Rattle.ffc_elab.specs.declared.plain.Plain.{Plain}
use Rattle.ffc_elab.specs.declared.plain.Plain.TheVariants as plain
use Rattle.ffc_parts.specs.declared.heads.Head.{Head}
use Rattle.ffc_words.specs.Outcomes.{outcome}
use Rattle.ffc_elab.specs.declared.answers.Command.{Command}
use Rattle.ffc_elab.specs.declared.store.Store.{Store}
use Rattle.ffc_elab.specs.Histories.{Known, known_by, assumptions_of}
use Rattle.ffc_elab.specs.Answers.{IsAnswered}
use Rattle.ffc_elab.specs.Kept.{IsKept, IsKnown}
use Rattle.ffc_elab.specs.Reading.{and_then, plain_of, read_by_head, IsCommandForm}
use Rattle.ffc_elab.specs.Changes.{in_state, opened, settled, quietly_after}
use Rattle.ffc_elab.specs.Taking.{IsCommandTaken}
use Rattle.ffc_elab.proofs.OutcomeLemmas.{outcome_behind}

pub settled_opened : (p : Plain) (s : State) → settled p (opened p s) ≡ quietly_after (plain_of p) s
settled_opened plain.SetLogic s = refl
settled_opened (plain.SetOption o b) s = refl
settled_opened (plain.GetOption o) s = refl
settled_opened plain.SetInfo s = refl
settled_opened (plain.GetInfo i) s = refl
settled_opened plain.Unsupported s = refl
settled_opened (plain.Echo b) s = refl
settled_opened plain.CheckSat s = refl
settled_opened plain.GetModel s = refl
settled_opened plain.GetUnsatCore s = refl
settled_opened plain.GetUnsatAssumptions s = refl
settled_opened (plain.Push n) s = refl
settled_opened (plain.Pop n) s = refl
settled_opened plain.ResetAssertions s = refl
settled_opened plain.Reset s = refl
settled_opened plain.Exit s = refl

pub none_named : (o : Option ℕ) → first_named o [] ≡ o
none_named None = refl
none_named (Some p) = refl

-- They make no nodes, weigh nothing, name no orders and assume nothing.
pub record IsLight (p : Plain) : Type 0 where
  pub nodes : (s : State) → nodes_after s (plain_of p) ≡ s.nodes
  pub weight : command_weight (plain_of p) ≡ 0
  pub orders : (t : Tree) → named_orders (plain_of p) t ≡ []
  pub assumes : assumptions_of (plain_of p) ≡ []

pub plain_light : (p : Plain) → IsLight p
unfolding nodes_after command_weight named_orders
plain_light plain.SetLogic = record { nodes = λ s. refl; weight = refl; orders = λ t. refl; assumes = refl }
plain_light (plain.SetOption o b) = record { nodes = λ s. refl; weight = refl; orders = λ t. refl; assumes = refl }
plain_light (plain.GetOption o) = record { nodes = λ s. refl; weight = refl; orders = λ t. refl; assumes = refl }
plain_light plain.SetInfo = record { nodes = λ s. refl; weight = refl; orders = λ t. refl; assumes = refl }
plain_light (plain.GetInfo i) = record { nodes = λ s. refl; weight = refl; orders = λ t. refl; assumes = refl }
plain_light plain.Unsupported = record { nodes = λ s. refl; weight = refl; orders = λ t. refl; assumes = refl }
plain_light (plain.Echo b) = record { nodes = λ s. refl; weight = refl; orders = λ t. refl; assumes = refl }
plain_light plain.CheckSat = record { nodes = λ s. refl; weight = refl; orders = λ t. refl; assumes = refl }
plain_light plain.GetModel = record { nodes = λ s. refl; weight = refl; orders = λ t. refl; assumes = refl }
plain_light plain.GetUnsatCore = record { nodes = λ s. refl; weight = refl; orders = λ t. refl; assumes = refl }
plain_light plain.GetUnsatAssumptions = record { nodes = λ s. refl; weight = refl; orders = λ t. refl; assumes = refl }
plain_light (plain.Push n) = record { nodes = λ s. refl; weight = refl; orders = λ t. refl; assumes = refl }
plain_light (plain.Pop n) = record { nodes = λ s. refl; weight = refl; orders = λ t. refl; assumes = refl }
plain_light plain.ResetAssertions = record { nodes = λ s. refl; weight = refl; orders = λ t. refl; assumes = refl }
plain_light plain.Reset = record { nodes = λ s. refl; weight = refl; orders = λ t. refl; assumes = refl }
plain_light plain.Exit = record { nodes = λ s. refl; weight = refl; orders = λ t. refl; assumes = refl }

pub quiet_after : (p : Plain) (s : State) (t : Tree) → after s t (plain_of p) ≡ quietly_after (plain_of p) s
unfolding after
quiet_after p s t =
    ap (λ nodes. record (changed (plain_of p) s) { nodes = nodes; first_order = first_named s.first_order (named_orders (plain_of p) t) }) ((plain_light p).nodes s)
    ∙ ap (λ o. record (changed (plain_of p) s) { nodes = s.nodes; first_order = o }) (ap (first_named s.first_order) ((plain_light p).orders t) ∙ none_named s.first_order)

-- From what is read to what is known

pub sound_of : {A : Type 0} (r : Read A) (a : A) → outcome r ≡ Ok a → r ≡ Sound a
sound_of (Sound b) a e = let same : b ≡ a = cc in ap Sound same
sound_of (Faulty f fs) a e = cc

not_more : (n m : ℕ) → m ≤ n → nat_lt n m ≡ false
not_more n m h = grind (arith, nat_tests)

-- a command that makes few nodes and weighs nothing
pub fits_read : (s : State) (tree : Tree) (c : smt.Command) → length (nodes_after s c) ≤ limits.nodes → command_weight c ≡ 0 → form_read limits s tree ≡ Sound c → command_read limits s tree ≡ Sound c
unfolding command_read
fits_read s tree c few weighs e =
    ap (λ r. behind r (within limits s (front tree))) e
    ∙ ap (λ b. if b then faulty 15 (front tree) else (if nat_lt limits.weight (command_weight c) then faulty 15 (front tree) else Sound c)) (not_more limits.nodes (length (nodes_after s c)) few)
    ∙ ap (λ n. if nat_lt limits.weight n then faulty 15 (front tree) else Sound c) weighs

is_more : (n m : ℕ) → n < m → nat_lt n m ≡ true
is_more n m h = grind (arith, nat_tests)

pub full_read : (s : State) (tree : Tree) (c : smt.Command) → limits.nodes < length (nodes_after s c) → form_read limits s tree ≡ Sound c → outcome (command_read limits s tree) ≡ Err (word_fault 15 (front tree))
unfolding command_read
full_read s tree c many e =
    ap (λ r. outcome (behind r (within limits s (front tree)))) e
    ∙ ap (λ b. outcome (if b then faulty 15 (front tree) else (if nat_lt limits.weight (command_weight c) then faulty 15 (front tree) else Sound c))) (is_more limits.nodes (length (nodes_after s c)) many)

-- one that makes few nodes and is light
pub room_read : (s : State) (tree : Tree) (c : smt.Command) → length (nodes_after s c) ≤ limits.nodes → command_weight c ≤ limits.weight → form_read limits s tree ≡ Sound c → command_read limits s tree ≡ Sound c
unfolding command_read
room_read s tree c few light e =
    ap (λ r. behind r (within limits s (front tree))) e
    ∙ ap (λ b. if b then faulty 15 (front tree) else (if nat_lt limits.weight (command_weight c) then faulty 15 (front tree) else Sound c)) (not_more limits.nodes (length (nodes_after s c)) few)
    ∙ ap (λ b. if b then faulty 15 (front tree) else Sound c) (not_more limits.weight (command_weight c) light)

-- one that is too heavy
pub heavy_read : (s : State) (tree : Tree) (c : smt.Command) → limits.weight < command_weight c → form_read limits s tree ≡ Sound c → outcome (command_read limits s tree) ≡ Err (word_fault 15 (front tree))
unfolding command_read
heavy_read s tree c heavy e =
    ap (λ r. outcome (behind r (within limits s (front tree)))) e
    ∙ ap (λ b. outcome (if nat_lt limits.nodes (length (nodes_after s c)) then faulty 15 (front tree) else (if b then faulty 15 (front tree) else Sound c))) (is_more limits.weight (command_weight c) heavy)
    ∙ either_way (nat_lt limits.nodes (length (nodes_after s c)))
  where
    either_way : (b : Bool) → outcome (if b then faulty 15 (front tree) else faulty {A = smt.Command} 15 (front tree)) ≡ Err (word_fault 15 (front tree))
    either_way true = refl
    either_way false = refl

-- one that makes none
pub quiet_read : (s : State) (tree : Tree) (c : smt.Command) → nodes_after s c ≡ s.nodes → command_weight c ≡ 0 → length s.nodes ≤ limits.nodes → form_read limits s tree ≡ Sound c → command_read limits s tree ≡ Sound c
quiet_read s tree c same weighs few e = fits_read s tree c (subst (λ ns. length ns ≤ limits.nodes) (sym same) few) weighs e

pub light_read : (s : State) (tree : Tree) (p : Plain) → length s.nodes ≤ limits.nodes → form_read limits s tree ≡ Sound (plain_of p) → command_read limits s tree ≡ Sound (plain_of p)
light_read s tree p few e = quiet_read s tree (plain_of p) ((plain_light p).nodes s) (plain_light p).weight few e

pub fault_read : (s : State) (tree : Tree) (f : Fault) → outcome (form_read limits s tree) ≡ Err f → outcome (command_read limits s tree) ≡ Err f
unfolding command_read
fault_read s tree f e = outcome_behind (form_read limits s tree) (within limits s (front tree)) ∙ ap (λ r. and_then r (λ c. outcome (within limits s (front tree) c))) e

pub known_plain : (k : Known) (tree : Tree) (p : Plain) → known_by k tree (plain_of p) ≡ in_state (quietly_after (plain_of p) k.state)
known_plain k tree p =
    ap (λ s. with_assumptions s (assumptions_of (plain_of p))) (quiet_after p k.state tree) ∙ ap (with_assumptions (quietly_after (plain_of p) k.state)) (plain_light p).assumes
  where
    with_assumptions : State → List Asked → Known
    with_assumptions s asked = record { state = s; assumptions = asked }

module _ (k : Known) (tree : Tree) (words : List Word) (head : Head) (known : IsKnown k) (form : IsCommandForm words k.state tree head) where
  pub plain_fault : (f : Fault) → Err f ≡ outcome (read_by_head limits k.state head form.closing (items_of form.items)) → outcome (command_read limits k.state tree) ≡ Err f
  plain_fault f e = fault_read k.state tree f (form.read ∙ sym e)

  pub plain_taken : (p : Plain) (x : Store) (r : Command) → Ok (plain_of p) ≡ outcome (read_by_head limits k.state head form.closing (items_of form.items))
      → IsKept (in_state (quietly_after (plain_of p) k.state)) x → IsAnswered (quietly_after (plain_of p) k.state) (plain_of p) r → IsCommandTaken k tree x r
  plain_taken p x r e kept answered = record {
    command = plain_of p;
    read = light_read k.state tree p known.sound.nodes.table.well_formed.within (sound_of (form_read limits k.state tree) (plain_of p) (form.read ∙ sym e));
    kept = subst (λ v. IsKept v x) (sym (known_plain k tree p)) kept;
    answered = subst (λ (v : Known). IsAnswered v.state (plain_of p) r) (sym (known_plain k tree p)) answered;
  }
