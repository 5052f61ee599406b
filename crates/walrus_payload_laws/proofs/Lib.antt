mod CustomLemmas
