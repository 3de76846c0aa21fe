use Rattle.worked.proofs.Computed as computed
use Rattle.worked.proofs.worked.proved.Goals as goal

pub returns : goal.returns
returns c =
    record {
      cancelled = computed.cancelled;
      merged = computed.merged;
      outputs_joined = computed.outputs_joined;
      first_order = computed.first_order;
      second_order = computed.second_order;
      order_three = computed.order_three;
      reduce_first = computed.reduce_first;
      reduce_second = computed.reduce_second;
      refine_first = (computed.refine_first, (computed.weights).0, (computed.weights).1);
      three_entered = computed.three_entered;
      budget_seven = computed.budget_seven;
      budget_six = computed.budget_six;
      either_expanded = computed.either_expanded;
      both_expanded = computed.both_expanded;
      bytes_joined = (computed.bytes_joined, (computed.byte_sized).0, (computed.byte_sized).1);
    }
