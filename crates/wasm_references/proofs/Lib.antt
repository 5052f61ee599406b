mod LeastLemmas
